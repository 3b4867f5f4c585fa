-- A sample that joins a window of eight places
use Rattle.std.proofs.Common.{◌≡◌, ℕ, ◌+◌, ◌-◌, ◌<◌, ◌≤◌, List, [], ◌∷◌, ◌++◌, length, take, drop, set, ℤ, sym, ap, ◌∙◌, arith}
use Rattle.std.proofs.Math.Seq.{set-append_seam}
use Rattle.std.proofs.lemmas.List.{take_more_set, length-take-le, length-append, take_all}
use Rattle.rules.specs.Terminal.{last_eight}

-- a window that is filling
pub joined_below : (xs : List ℤ) (n : ℕ) (x : ℤ) → length xs ≡ 8 → n < 8 → take (n + 1) (set xs n x) ≡ last_eight (take n xs ++ (x ∷ []))
joined_below xs n x len lt =
    let l : length (take n xs ++ (x ∷ [])) - 8 ≡ 0 = omega (arith, length-append (take n xs) (x ∷ []), length-take-le n xs (omega arith)) in
    take_more_set xs n x (omega arith) ∙ sym (ap (λ k. drop k (take n xs ++ (x ∷ []))) l)

-- the new sample takes the last place, to which the oldest was rotated
last_place : (rest : List ℤ) (y x : ℤ) → length rest ≡ 7 → set (rest ++ (y ∷ [])) 7 x ≡ rest ++ (x ∷ [])
last_place rest y x len = ap (λ k. set (rest ++ (y ∷ [])) k x) (sym len) ∙ set-append_seam rest y [] x

-- a full window, which loses its oldest
pub joined_full : (xs ys : List ℤ) (n : ℕ) (x : ℤ) → length xs ≡ 8 → n ≤ 8 → 8 ≤ n → ys ≡ drop 1 xs ++ take 1 xs → take n (set ys 7 x) ≡ last_eight (take n xs ++ (x ∷ []))
joined_full [] ys n x len le ge e = absurd (omega (arith, len))
joined_full (y ∷ rest) ys n x len le ge e =
    let l7 : length rest ≡ 7 = omega (arith, len) in
    let new : set ys 7 x ≡ rest ++ (x ∷ []) = ap (λ l. set l 7 x) e ∙ last_place rest y x l7 in
    let long : length (rest ++ (x ∷ [])) ≡ 8 = length-append rest (x ∷ []) ∙ ap (λ k. k + 1) l7 in
    let all : take n (y ∷ rest) ≡ y ∷ rest = take_all n (y ∷ rest) (omega (arith, len)) in
    let over : length (y ∷ rest ++ (x ∷ [])) - 8 ≡ 1 = omega (arith, long) in
    ap (take n) new ∙ take_all n (rest ++ (x ∷ [])) (omega (arith, long))
    ∙ sym (ap (λ z. last_eight (z ++ (x ∷ []))) all ∙ ap (λ k. drop k (y ∷ rest ++ (x ∷ []))) over)
