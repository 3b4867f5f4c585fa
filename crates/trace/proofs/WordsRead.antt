-- The digits of a word, and what a word is without one
use Rattle.std.proofs.Common.{◌≡◌, ℕ, zero, suc, ◌<◌, ◌≤◌, Bool, true, false, cond, ◌&&◌, eqb, leb, List, length, sym, refl, ap, ◌∙◌, arith, None, Some}
use Rattle.std.proofs.lemmas.Bool.{le-leb, lt-leb, eqb-true, eqb-false}
use Rattle.rules.specs.Terminal.{all_digits, written}
use Rattle.rules.specs.Trace.{a_number}

pub empty : (n : ℕ) (b : Bool) → b ≡ eqb n 0 → b ≡ true → n < 1
empty n b e h = omega (arith, eqb-true n 0 (sym e ∙ h))

pub filled : (n : ℕ) (b : Bool) → b ≡ eqb n 0 → b ≡ false → 1 ≤ n
filled zero b e h = absurd (eqb-false 0 0 (sym e ∙ h) refl)
filled (suc n) b e h = omega arith

pub too_short : (word : List ℕ) → length word < 1 → a_number word ≡ None
unfolding a_number
too_short word h = ap (λ b. cond (b && (leb (length word) 9 && all_digits word)) (Some (written word)) None) (lt-leb 1 (length word) h)

module _ (word : List ℕ) (low : 1 ≤ length word) (high : length word ≤ 9) where
  pub sized : a_number word ≡ cond (all_digits word) (Some (written word)) None
  unfolding a_number
  sized = rw (le-leb 1 (length word) low, le-leb (length word) 9 high)
