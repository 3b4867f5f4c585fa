use Rattle.std.proofs.Common.{refl}
use Rattle.rules.specs.Lists.{number_of}
use Rattle.records.proofs.bits.Writer.new.Goals as goal

pub returns-clause-none : goal.returns-clause-none
unfolding number_of
returns-clause-none c = refl
