use Rattle.std.proofs.Common.{◌≡◌, ◌*◌, get_or, drop, pos, ◌+ℤ◌, neg_ℤ, ◌≤ℤ◌}
use Rattle.rules.specs.Loads.{sum, highest, lowest}
use Rattle.loads.proofs.readings.Extent.of.Given as goal

-- what the samples that are left add to what was found so far
abbrev pub invariant-loop-sample : goal.invariant-loop-sample
invariant-loop-sample l =
    (l.sum +ℤ sum (drop l.sample-index l.sample-items) ≡ sum l.sample-items)
    × (lowest l.low (drop l.sample-index l.sample-items) ≡ lowest (get_or l.sample-items 0 (pos 0)) (drop 1 l.sample-items))
    × (highest l.high (drop l.sample-index l.sample-items) ≡ highest (get_or l.sample-items 0 (pos 0)) (drop 1 l.sample-items))
    × (neg_ℤ (pos (2147483648 * l.sample-index)) ≤ℤ l.sum)
    × (l.sum ≤ℤ pos (2147483647 * l.sample-index))
