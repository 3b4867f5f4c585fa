use Rattle.rules.proofs.Storings.{cut_store_keeps_order}
use Rattle.rules.proofs.cut_store_keeps_order.Goals as goal

pub returns : goal.returns
returns c = cut_store_keeps_order
