-- A walk over the lines of a trace, and what it writes
use Rattle.std.proofs.Common.{◌≡◌, ℕ, ◌+◌, List, [], ◌∷◌, ◌++◌, sym, refl, ap, ◌∙◌, arith, Option, None, Some}
use Rattle.std.proofs.lemmas.List.{append-nil, append_assoc}
use Rattle.rules.specs.Trace.{Reading, reading_of, next_line}
use Rattle.rules.specs.Replay.{Replay, plays, writes_from}

-- a line that is read where a line is left
at_line :
    (f : ℕ → Reading → List ℕ × Replay) (w : Replay → ℕ → List (List ℕ) → List ℕ) (n m k : ℕ) (x y : Reading) (bytes : List ℕ) (after : Replay) (ls rest : List (List ℕ))
    → n ≡ m → x ≡ y → k ≡ m → rest ≡ ls → f n x ≡ (bytes, after) → (f m y).0 ++ w (f m y).1 m ls ≡ bytes ++ w after k rest
at_line f w n m k x y bytes after ls rest en ex ek er ef =
    let same : f m y ≡ (bytes, after) = sym (ap (λ z. f z x) en ∙ ap (f m) ex) ∙ ef in
    ap (λ p. p.0 ++ w p.1 m ls) same ∙ ap (λ z. bytes ++ w after z ls) (sym ek) ∙ ap (λ z. bytes ++ w after k z) (sym er)

-- a line writes what it plays, and then the rest of the lines what they do
writes_line :
    (before k n : ℕ) (x : Reading) (ls rest : List (List ℕ)) (r after : Replay) (bytes : List ℕ)
    → ◌≡◌ {A = Option (ℕ × Reading) × ℕ × List (List ℕ)} (Some (n, x), k, rest) (next_line before ls) → plays r n x ≡ (bytes, after)
    → writes_from r before ls ≡ bytes ++ writes_from after k rest
unfolding writes_from
writes_line before k n x [] rest r after bytes e p = let y : ◌≡◌ {A = Option (ℕ × Reading)} (Some (n, x)) None = ap (λ q. q.0) e in let z : ◌≡◌ {A = ℕ} 0 1 = cc in absurd (omega arith)
writes_line before k n x (l ∷ ls) rest r after bytes e p =
    let item : ◌≡◌ {A = Option (ℕ × Reading)} (Some (n, x)) (Some (before + 1, reading_of (before + 1) l)) = ap (λ q. q.0) e in
    let pair : ◌≡◌ {A = ℕ × Reading} (n, x) (before + 1, reading_of (before + 1) l) = cc in
    at_line (plays r) writes_from n (before + 1) k x (reading_of (before + 1) l) bytes after ls rest (ap (λ q. q.0) pair) (ap (λ q. q.1) pair) (ap (λ q. q.1) e)
    (ap (λ q. q.2) e) p

-- where no line is left nothing more is written
writes_no_more :
    (before k : ℕ) (ls rest : List (List ℕ)) (r : Replay) → ◌≡◌ {A = Option (ℕ × Reading) × ℕ × List (List ℕ)} (None, k, rest) (next_line before ls)
    → writes_from r before ls ≡ []
unfolding writes_from
writes_no_more before k [] rest r e = refl
writes_no_more before k (l ∷ ls) rest r e =
    let y : ◌≡◌ {A = Option (ℕ × Reading)} None (Some (before + 1, reading_of (before + 1) l)) = ap (λ q. q.0) e in let z : ◌≡◌ {A = ℕ} 0 1 = cc in absurd (omega arith)

-- a line that is written, with what the lines that are then left write, is what is left to write before
pub line_written :
    (before k n : ℕ) (x : Reading) (ls rest : List (List ℕ)) (r after : Replay) (bytes said was wrote : List ℕ)
    → ◌≡◌ {A = Option (ℕ × Reading) × ℕ × List (List ℕ)} (Some (n, x), k, rest) (next_line before ls) → plays r n x ≡ (bytes, after) → said ≡ bytes
    → wrote ≡ was ++ said → wrote ++ writes_from after k rest ≡ was ++ writes_from r before ls
line_written before k n x ls rest r after bytes said was wrote e p s w =
    ap (λ z. z ++ writes_from after k rest) (w ∙ ap (λ z. was ++ z) s) ∙ append_assoc was bytes (writes_from after k rest)
    ∙ ap (λ z. was ++ z) (sym (writes_line before k n x ls rest r after bytes e p))

-- where no line is left, what is written is all
pub no_more_written :
    (before k : ℕ) (ls rest : List (List ℕ)) (r : Replay) (was all : List ℕ)
    → ◌≡◌ {A = Option (ℕ × Reading) × ℕ × List (List ℕ)} (None, k, rest) (next_line before ls) → was ++ writes_from r before ls ≡ all → was ≡ all
no_more_written before k ls rest r was all e w = sym (append-nil was) ∙ ap (λ z. was ++ z) (sym (writes_no_more before k ls rest r e)) ∙ w
