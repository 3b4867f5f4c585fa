use Rattle.std.proofs.Common.{arith}
use Rattle.std.proofs.lemmas.Bool.Decides.{nat_tests}
use Rattle.indicator.proofs.body.Indicator.sample.Goals.{in_default-via-in-Waiting+else-is_empty, in_default-via-in_default}
use Rattle.indicator.proofs.body.Indicator.sample.Goals as goal

pub returns-in_default : goal.returns-in_default
returns-in_default c = λ rows writes. elim c.in_default.branch [
  | in_default-via-in-Waiting+else-is_empty w ↦ grind (arith, nat_tests, c.self.view_is)
  | in_default-via-in_default w ↦ grind (arith, nat_tests, c.self.view_is)
]
