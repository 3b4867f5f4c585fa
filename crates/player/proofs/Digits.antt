-- The line of a refusal
use Rattle.std.proofs.Common.{◌≡◌, ℕ, List, [], ◌∷◌, slice_index_or, refl}
use Rattle.rules.specs.Lists.{digits_of}
use Rattle.rules.specs.Tickets.{decimal}
use Rattle.rules.specs.Replay.{refusal_line}

-- the line of a refusal, digit by digit
pub refusal_digits :
    (n line : ℕ) (xs ys : List ℕ) → xs ≡ decimal 2 n → ys ≡ decimal 5 line
    → 69 ∷ 32 ∷ slice_index_or xs 0 0 ∷ slice_index_or xs 1 0 ∷ 32 ∷ slice_index_or ys 0 0 ∷ slice_index_or ys 1 0 ∷ slice_index_or ys 2 0 ∷ slice_index_or ys 3 0
    ∷ slice_index_or ys 4 0 ∷ 10 ∷ []
    ≡ refusal_line n line
unfolding refusal_line decimal digits_of
refusal_digits n line xs ys ex ey = rw (ex, ey) refl
