-- Digits that are written last digit first, and then turned round
use Rattle.std.proofs.Common.{◌≡◌, ℕ, suc, ◌+◌, ◌-◌, ◌/◌, ◌%◌, ◌<◌, ◌≤◌, List, [], ◌∷◌, ◌++◌, map, length, take, set, sym, refl, ap, ◌∙◌, arith}
use Rattle.std.specs.Prelude.{reverse}
use Rattle.std.proofs.lemmas.List.{append_assoc, take_all, take_more_set, map_push, reverse-append}
use Rattle.rules.specs.Lists.{digits_of}

-- the digits of a number, as characters that count on from a
abbrev pub characters : (b a n v : ℕ) → List ℕ
characters b a n v = map (λ d. d + a) (digits_of b n v)

-- one digit more stands behind those that are written
pub digit_out :
    (b a n i v w : ℕ) (xs : List ℕ) → i < n → length xs ≡ n → characters b a n v ≡ characters b a (n - i) w ++ reverse (take i xs)
    → characters b a n v ≡ characters b a (n - (i + 1)) (w / b) ++ reverse (take (i + 1) (set xs i (a + w % b)))
unfolding digits_of
digit_out b a n i v w xs inside size e =
    let left : n - i ≡ suc (n - (i + 1)) = omega arith in
    let k : ℕ = n - (i + 1) in
    let turn : w % b + a ≡ a + w % b = omega arith in
    e ∙ ap (λ m. characters b a m w ++ reverse (take i xs)) left
    ∙ ap (λ ys. ys ++ reverse (take i xs)) (map_push (λ d. d + a) (digits_of b k (w / b)) (w % b))
    ∙ append_assoc (characters b a k (w / b)) ((w % b + a) ∷ []) (reverse (take i xs))
    ∙ ap (λ d. characters b a k (w / b) ++ (d ∷ reverse (take i xs))) turn
    ∙ ap (λ ys. characters b a k (w / b) ++ ys) (sym (ap reverse (take_more_set xs i (a + w % b) (omega arith)) ∙ reverse-append (take i xs) ((a + w % b) ∷ [])))

pub digits_out : (b a n i v w : ℕ) (xs : List ℕ) → n ≤ i → length xs ≡ n → characters b a n v ≡ characters b a (n - i) w ++ reverse (take i xs) → reverse xs ≡ characters b a n v
unfolding digits_of
digits_out b a n i v w xs past size e =
    let none : n - i ≡ 0 = omega arith in
    sym (e ∙ ap (λ m. characters b a m w ++ reverse (take i xs)) none ∙ ap reverse (take_all i xs (omega arith)))

-- digits that count on from 0 are as they are
pub from_zero : (ds : List ℕ) → map (λ d. d + 0) ds ≡ ds
from_zero [] = refl
from_zero (d ∷ ds) = let same : d + 0 ≡ d = omega arith in rw (same, from_zero ds)
