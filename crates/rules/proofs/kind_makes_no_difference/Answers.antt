use Rattle.rules.proofs.ReplayLaws.{kind_makes_no_difference}
use Rattle.rules.proofs.kind_makes_no_difference.Goals as goal

pub returns : goal.returns
returns c = kind_makes_no_difference
