use Rattle.std.proofs.Common.{◌≡◌, ◌-◌}
use Rattle.rules.specs.Replay.{unopened}
use Rattle.trace.specs.Meaning.{standing}
use Rattle.player.specs.Runs.{whole_of}
use Rattle.player.proofs.run.Run.play_all.Given as goal

-- what is written, with what the lines that are left write, is what all lines write
abbrev pub invariant-loop-item : goal.invariant-loop-item
invariant-loop-item l = whole_of unopened l.self ≡ whole_of unopened l.fn.self

-- as many lines as a trace can have
abbrev pub decreases-loop-item : goal.decreases-loop-item
decreases-loop-item l = 32768 - (standing l.self.reader).0
