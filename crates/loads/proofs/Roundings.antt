-- How large a rounded load may be
use Rattle.std.proofs.Common.{ℤ, pos, negsuc, ◌≤ℤ◌, arith}
use Rattle.std.proofs.lemmas.Int.{ints}
use Rattle.rules.specs.Loads.{nearest}

pub tenth_fits : (z : ℤ) → negsuc 4294967294 ≤ℤ z → z ≤ℤ pos 4294967295 → (negsuc 429496729 ≤ℤ nearest 10 z) × (nearest 10 z ≤ℤ pos 429496730)
tenth_fits (pos n) low high = (omega (arith, ints), omega (arith, ints))
tenth_fits (negsuc n) low high = (omega (arith, ints), omega (arith, ints))

pub eighth_fits : (z : ℤ) → negsuc 17179869183 ≤ℤ z → z ≤ℤ pos 17179869176 → (negsuc 2147483647 ≤ℤ nearest 8 z) × (nearest 8 z ≤ℤ pos 2147483647)
eighth_fits (pos n) low high = (omega (arith, ints), omega (arith, ints))
eighth_fits (negsuc n) low high = (omega (arith, ints), omega (arith, ints))
