-- How far a rounded load may lie from 0
use Rattle.std.specs.Prelude.{ℤ, pos, negsuc, ◌≤ℤ◌}

-- one load of 32 bits less another, in tenths, comes to at most 429,496,730 intervals either way
abbrev pub IsRoundedLoad : (intervals : ℤ) → Type 0
IsRoundedLoad g = (negsuc 429496729 ≤ℤ g) × (g ≤ℤ pos 429496730)
