use Rattle.std.proofs.Common.{◌≡◌, ℕ, ◌<◌, ◌≤◌, length, get_or}
use Rattle.media.proofs.bytes.clear_bits.Given as goal

-- the cells so far are the bytes, and the others are all ones
abbrev pub invariant-loop-i : goal.invariant-loop-i
invariant-loop-i l =
    (length l.row ≡ 32) × ((k : ℕ) → k < l.i → get_or l.row k 0 ≡ get_or l.bytes k 0) × ((k : ℕ) → l.i ≤ k → k < 32 → get_or l.row k 0 ≡ 255)
