use Rattle.rules.proofs.Erasures.{release_keeps_order}
use Rattle.rules.proofs.release_keeps_order.Goals as goal

pub returns : goal.returns
returns c = release_keeps_order
