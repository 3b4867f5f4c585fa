use Rattle.rules.proofs.Erasures.{cut_release_keeps_order}
use Rattle.rules.proofs.cut_release_keeps_order.Goals as goal

pub returns : goal.returns
returns c = cut_release_keeps_order
