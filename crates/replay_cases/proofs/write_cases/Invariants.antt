use Rattle.std.proofs.Common.{length}
use Rattle.replay_cases.proofs.write_cases.Given as goal

abbrev pub invariant-loop-named : goal.invariant-loop-named
invariant-loop-named l = Unit {0}

-- what is left of the bundle
abbrev pub decreases-loop-named : goal.decreases-loop-named
decreases-loop-named l = length l.rest
