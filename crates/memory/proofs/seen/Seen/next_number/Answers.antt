use Rattle.std.proofs.Common.{rules}
use Rattle.rules.specs.Memory.{next_number}
use Rattle.memory.proofs.seen.Seen.next_number.Goals as goal

pub returns : goal.returns
unfolding next_number
returns g c = search rules
