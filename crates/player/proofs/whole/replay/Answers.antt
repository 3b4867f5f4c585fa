use Rattle.std.proofs.Common.{rules}
use Rattle.rules.specs.Replay.{trace_writes}
use Rattle.player.proofs.whole.replay.Goals as goal

pub returns : goal.returns
unfolding trace_writes
returns c = search rules
