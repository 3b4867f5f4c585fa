use Rattle.std.proofs.Common.{arith}
use Rattle.rules.proofs.Weighings.{renumbered_lawful}
use Rattle.records.specs.RecordsOf.{record_of}
use Rattle.records.proofs.weighing.Weighing.numbered.Goals as goal

pub returns-clause-lawful : goal.returns-clause-lawful
returns-clause-lawful c = λ from. renumbered_lawful (record_of c.args.self.entries) 1 c.args.number c.args.self.sound from (omega arith)
