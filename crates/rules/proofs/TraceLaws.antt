-- Lines and words: where each ends, and what they come to together
use Rattle.std.proofs.Common.{◌≡◌, ℕ, zero, suc, ◌+◌, ◌-◌, ◌<◌, Bool, true, false, cond, eqb, List, [], ◌∷◌, ◌++◌, length, get_or, sym, refl, ap, ◌∙◌, arith}
use Rattle.std.proofs.lemmas.Bool.{eqb-true, eqb-false, eq-eqb, ne_eqb}
use Rattle.std.proofs.lemmas.List.{append-nil}
use Rattle.rules.specs.Lists.{joined}
use Rattle.rules.specs.Trace.{in_front, lines}
use Rattle.rules.specs.Laws.{LinesAreTheTrace, LinesEndAtLineFeeds, IsLine, AreLines}

-- ---- Nothing is lost

joined_front : (c : ℕ) (ts : List (List ℕ)) → joined (in_front c ts) ≡ c ∷ joined ts
joined_front c [] = refl
joined_front c (t ∷ ts) = refl

lines_joined_by : (b : Bool) (c : ℕ) (cs : List ℕ) → joined (lines cs) ≡ cs → joined (cond b ((c ∷ []) ∷ lines cs) (in_front c (lines cs))) ≡ c ∷ cs
lines_joined_by true c cs e = ap (λ l. c ∷ l) e
lines_joined_by false c cs e = joined_front c (lines cs) ∙ ap (λ l. c ∷ l) e

pub lines_joined : LinesAreTheTrace
unfolding lines
lines_joined [] = refl
lines_joined (c ∷ cs) = lines_joined_by _ c cs (lines_joined cs)

-- ---- Line feeds

alone : (c : ℕ) → IsLine (c ∷ [])
alone c = record { not_empty = omega arith; feed_last = λ k h e. omega arith }

longer : (c : ℕ) (l : List ℕ) → (c ≡ 10 → ⊥) → IsLine l → IsLine (c ∷ l)
longer c l other i = record { not_empty = omega arith; feed_last = last }
  where
    last : (k : ℕ) → k + 1 < length (c ∷ l) → get_or (c ∷ l) k 0 ≡ 10 → ⊥
    last zero h e = other e
    last (suc k) h e = i.feed_last k (omega arith) e

-- a line feed alone goes before lines
feed_before : (c : ℕ) (ls : List (List ℕ)) → c ≡ 10 → AreLines ls → AreLines ((c ∷ []) ∷ ls)
feed_before c [] e a = alone c
feed_before c (l ∷ ls) e a = (alone c, e, a)

last_behind : (c : ℕ) (l : List ℕ) → 0 < length l → get_or l (length l - 1) 0 ≡ 10 → get_or (c ∷ l) (length (c ∷ l) - 1) 0 ≡ 10
last_behind c [] h e = absurd (omega arith)
last_behind c (d ∷ l) h e =
    let n : length (c ∷ (d ∷ l)) - 1 ≡ suc (length (d ∷ l) - 1) = omega arith in
    ap (λ k. get_or (c ∷ (d ∷ l)) k 0) n ∙ e

-- any other byte joins the first line
byte_before : (c : ℕ) (ls : List (List ℕ)) → (c ≡ 10 → ⊥) → AreLines ls → AreLines (in_front c ls)
byte_before c [] other a = alone c
byte_before c (l ∷ []) other a = longer c l other a
byte_before c (l ∷ (m ∷ ls)) other a = (longer c l other a.0, last_behind c l a.0.not_empty a.1, a.2)

lines_end_by : (b : Bool) (c : ℕ) (ls : List (List ℕ)) → eqb c 10 ≡ b → AreLines ls → AreLines (cond b ((c ∷ []) ∷ ls) (in_front c ls))
lines_end_by true c ls e a = feed_before c ls (eqb-true c 10 e) a
lines_end_by false c ls e a = byte_before c ls (eqb-false c 10 e) a

ends : (trace : List ℕ) → AreLines (lines trace)
unfolding lines
ends [] = tt
ends (c ∷ cs) = lines_end_by (eqb c 10) c (lines cs) refl (ends cs)

-- ---- No other lines make the trace

-- a line of two bytes and more begins with no line feed, and is a line without its first byte
no_feed : (c d : ℕ) (l : List ℕ) → IsLine (c ∷ (d ∷ l)) → eqb c 10 ≡ false
no_feed c d l i = ne_eqb c 10 (λ e. i.feed_last 0 (omega arith) e)

shorter : (c d : ℕ) (l : List ℕ) → IsLine (c ∷ (d ∷ l)) → IsLine (d ∷ l)
shorter c d l i = record { not_empty = omega arith; feed_last = λ k h e. i.feed_last (suc k) (omega arith) e }

last_but_first : (c d : ℕ) (l : List ℕ) → get_or (c ∷ (d ∷ l)) (length (c ∷ (d ∷ l)) - 1) 0 ≡ 10 → get_or (d ∷ l) (length (d ∷ l) - 1) 0 ≡ 10
last_but_first c d l e =
    let n : length (c ∷ (d ∷ l)) - 1 ≡ suc (length (d ∷ l) - 1) = omega arith in
    sym (ap (λ k. get_or (c ∷ (d ∷ l)) k 0) n) ∙ e

line_alone : (l : List ℕ) → IsLine l → lines l ≡ l ∷ []
unfolding lines
line_alone [] i = absurd (omega (arith, i.not_empty))
line_alone (c ∷ []) i = by (eqb c 10)
  where
    by : (b : Bool) → cond b ((c ∷ []) ∷ []) ((c ∷ []) ∷ []) ≡ (c ∷ []) ∷ []
    by true = refl
    by false = refl
line_alone (c ∷ (d ∷ l)) i =
    ap (λ b. cond b ((c ∷ []) ∷ lines (d ∷ l)) (in_front c (lines (d ∷ l)))) (no_feed c d l i) ∙ ap (in_front c) (line_alone (d ∷ l) (shorter c d l i))

line_then : (l rest : List ℕ) → IsLine l → get_or l (length l - 1) 0 ≡ 10 → lines (l ++ rest) ≡ l ∷ lines rest
unfolding lines
line_then [] rest i e = absurd (omega (arith, i.not_empty))
line_then (c ∷ []) rest i e = ap (λ b. cond b ((c ∷ []) ∷ lines rest) (in_front c (lines rest))) (eq-eqb c 10 e)
line_then (c ∷ (d ∷ l)) rest i e =
    ap (λ b. cond b ((c ∷ []) ∷ lines ((d ∷ l) ++ rest)) (in_front c (lines ((d ∷ l) ++ rest)))) (no_feed c d l i)
    ∙ ap (in_front c) (line_then (d ∷ l) rest (shorter c d l i) (last_but_first c d l e))

only_lines : (ls : List (List ℕ)) → AreLines ls → lines (joined ls) ≡ ls
unfolding lines
only_lines [] a = refl
only_lines (l ∷ []) a = ap lines (append-nil l) ∙ line_alone l a
only_lines (l ∷ (m ∷ ls)) a = line_then l (joined (m ∷ ls)) a.0 a.1 ∙ ap (λ ms. l ∷ ms) (only_lines (m ∷ ls) a.2)

pub lines_end : LinesEndAtLineFeeds
lines_end trace = (ends trace, λ ls e a. sym (only_lines ls a) ∙ ap lines e)
