-- The first place at which two lines of one length differ
use Rattle.std.proofs.Common.{◌≡◌, ℕ, ◌+◌, not, ◌==◌, List, [], ◌∷◌, length, refl, arith}
use Rattle.std.proofs.lemmas.Bool.Decides.{nat_tests}
use Rattle.std.specs.List.{position_from, zip}
use Rattle.rules.specs.Terminal.{difference}

-- it is the first place of unequal bytes in the lines side by side
pub difference_of_zip :
    (k : ℕ) (xs ys : List ℕ) → length xs ≡ length ys → (position_from (λ p. not (p.0 == p.1)) k (zip xs ys)) ≡ difference k xs ys
difference_of_zip k [] [] e = refl
difference_of_zip k [] (y ∷ ys) e = absurd (omega arith)
difference_of_zip k (x ∷ xs) [] e = absurd (omega arith)
difference_of_zip k (x ∷ xs) (y ∷ ys) e = grind (arith, nat_tests, difference_of_zip (k + 1) xs ys (omega arith))
