-- One turn of the loop over the samples, and what a full window's extent says
use Rattle.std.proofs.Common.{◌≡◌, ℕ, ◌+◌, ◌<◌, ◌≤◌, Bool, true, false, cond, ◌&&◌, eqb, List, length, get_or, take, drop, ℤ, pos, ◌+ℤ◌, ◌-ℤ◌, sym, refl, ap, ◌∙◌, arith, None, Some}
use lib.Signed.{le_z, lt_z}
use Rattle.std.specs.Int.{int_max}
use Rattle.std.proofs.lemmas.List.{drop_more, drop_all, take_all, length-take}
use Rattle.std.proofs.lemmas.Int.{ints}
use Rattle.std.proofs.lemmas.Bool.{eqb-true}
use Rattle.rules.specs.Loads.{nearest, sum, mean, highest, lowest, stable}

pub sum_step : (xs : List ℤ) (i : ℕ) → i < length xs → sum (drop i xs) ≡ get_or xs i (pos 0) +ℤ sum (drop (i + 1) xs)
unfolding sum
sum_step xs i h = ap sum (drop_more xs i (pos 0) h)

pub sum_end : (xs : List ℤ) (i : ℕ) → length xs ≤ i → sum (drop i xs) ≡ pos 0
unfolding sum
sum_end xs i h = ap sum (drop_all i xs h)

pub lowest_step : (a : ℤ) (xs : List ℤ) (i : ℕ) → i < length xs → lowest a (drop i xs) ≡ lowest (cond (lt_z (get_or xs i (pos 0)) a) (get_or xs i (pos 0)) a) (drop (i + 1) xs)
unfolding lowest
lowest_step a xs i h = ap (lowest a) (drop_more xs i (pos 0) h)

pub lowest_end : (a : ℤ) (xs : List ℤ) (i : ℕ) → length xs ≤ i → lowest a (drop i xs) ≡ a
unfolding lowest
lowest_end a xs i h = ap (lowest a) (drop_all i xs h)

-- the larger of two, tested either way round
larger : (a b : ℤ) → cond (lt_z a b) b a ≡ int_max a b
larger a b = grind (arith, ints)

pub highest_step : (a : ℤ) (xs : List ℤ) (i : ℕ) → i < length xs → highest a (drop i xs) ≡ highest (int_max a (get_or xs i (pos 0))) (drop (i + 1) xs)
unfolding highest
highest_step a xs i h = ap (highest a) (drop_more xs i (pos 0) h) ∙ ap (λ z. highest z (drop (i + 1) xs)) (larger a (get_or xs i (pos 0)))

pub highest_end : (a : ℤ) (xs : List ℤ) (i : ℕ) → length xs ≤ i → highest a (drop i xs) ≡ a
unfolding highest
highest_end a xs i h = ap (highest a) (drop_all i xs h)

same_either : (b : Bool) (a : ℤ) → cond b a a ≡ a
same_either true a = refl
same_either false a = refl

pub lowest_start : (xs : List ℤ) → 0 < length xs → lowest (get_or xs 0 (pos 0)) xs ≡ lowest (get_or xs 0 (pos 0)) (drop 1 xs)
lowest_start xs h = lowest_step (get_or xs 0 (pos 0)) xs 0 h ∙ ap (λ a. lowest a (drop 1 xs)) (same_either _ _)

pub highest_start : (xs : List ℤ) → 0 < length xs → highest (get_or xs 0 (pos 0)) xs ≡ highest (get_or xs 0 (pos 0)) (drop 1 xs)
highest_start xs h = highest_step (get_or xs 0 (pos 0)) xs 0 h ∙ ap (λ a. highest a (drop 1 xs)) (same_either _ _)

stable_is : (xs : List ℤ) → 0 < length xs → stable xs ≡ le_z (highest (get_or xs 0 (pos 0)) (drop 1 xs) -ℤ lowest (get_or xs 0 (pos 0)) (drop 1 xs)) (pos 5)
unfolding stable
stable_is xs h = ap stable (drop_more xs 0 (pos 0) h)

-- a full window shows all its places
whole : (xs : List ℤ) (n : ℕ) → length xs ≡ 8 → true ≡ eqb (length (take n xs)) 8 → take n xs ≡ xs
whole xs n len full = take_all n xs (omega (arith, length-take n xs, eqb-true _ _ (sym full)))

-- whether a full window is stable, from its extremes
pub full_stable : (xs : List ℤ) (n : ℕ) (high low : ℤ) → length xs ≡ 8 → true ≡ eqb (length (take n xs)) 8
    → high ≡ highest (get_or xs 0 (pos 0)) (drop 1 xs) → low ≡ lowest (get_or xs 0 (pos 0)) (drop 1 xs)
    → le_z (high -ℤ low) (pos 5) ≡ (eqb (length (take n xs)) 8 && stable (take n xs))
full_stable xs n high low len full eh el =
    ap (λ a. le_z (a -ℤ low) (pos 5)) eh ∙ ap (λ a. le_z (highest (get_or xs 0 (pos 0)) (drop 1 xs) -ℤ a) (pos 5)) el
    ∙ sym (stable_is xs (omega arith)) ∙ ap stable (sym (whole xs n len full)) ∙ ap (λ b. b && stable (take n xs)) full

-- the mean of a full window, from its sum
pub full_mean : (xs : List ℤ) (n : ℕ) (total : ℤ) → length xs ≡ 8 → true ≡ eqb (length (take n xs)) 8 → total ≡ sum xs
    → Some (nearest 8 total) ≡ cond (eqb (length (take n xs)) 8) (Some (mean (take n xs))) None
unfolding mean
full_mean xs n total len full e =
    ap (λ z. Some (nearest 8 z)) (e ∙ ap sum (sym (whole xs n len full))) ∙ ap (λ b. cond b (Some (mean (take n xs))) None) full
