use Rattle.std.proofs.Common.{rules}
use Rattle.player.proofs.beginning.begin.Goals as goal

pub returns-clause-kind : goal.returns-clause-kind
returns-clause-kind c = (c.in-Ok-Begin.class, c.in-Ok-Begin.kg, c.in-Ok-Begin.max, search rules)
