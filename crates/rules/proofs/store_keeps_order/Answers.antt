use Rattle.rules.proofs.Storings.{store_keeps_order}
use Rattle.rules.proofs.store_keeps_order.Goals as goal

pub returns : goal.returns
returns c = store_keeps_order
