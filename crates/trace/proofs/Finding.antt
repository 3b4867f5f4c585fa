-- The first place of a byte, and the words and lines that end there
use Rattle.std.proofs.Common.{◌≡◌, ℕ, suc, ◌+◌, ◌-◌, ◌<◌, ◌≤◌, Bool, true, false, cond, not, eqb, ◌⊎◌, List, [], ◌∷◌, length, MatchOption, take, drop, sym, refl, ap, ◌∙◌, subst, inl, inr, arith, Option, None, Some}
use Rattle.std.proofs.lemmas.Bool.{le-leb, lt-leb, lt-ltb, le-ltb, cases_lt}
use Rattle.std.proofs.lemmas.List.{drop-drop, take_all, length-drop, length-take-le}
use Rattle.rules.specs.Lists.{when_some}
use Rattle.rules.specs.Trace.{in_front, at_end, lines, text_of, words}
use Rattle.std.specs.List.{position, position_or_len, slice_range}
use Rattle.std.specs.Option.{unwrap_or}
use Rattle.trace.specs.Places.{words_from}

-- how many bytes stand before the first that is this one
abbrev pub before : (byte : ℕ) → List ℕ → ℕ
before byte xs = position_or_len (λ b. eqb b byte) xs

pub some_none : (n : ℕ) → Some n ≡ None → ⊥
some_none n e = let D : Option ℕ → Type 0 = λ o. MatchOption o ⊥ (λ k. Unit {0}) in subst D e tt

-- ---- By cases on the first byte

before_same : (byte c : ℕ) (cs : List ℕ) → eqb c byte ≡ true → before byte (c ∷ cs) ≡ 0
before_same byte c cs e = ap (λ b. cond (not b) (1 + before byte cs) 0) e

before_other : (byte c : ℕ) (cs : List ℕ) → eqb c byte ≡ false → before byte (c ∷ cs) ≡ suc (before byte cs)
before_other byte c cs e = let one : 1 + before byte cs ≡ suc (before byte cs) = omega arith in ap (λ b. cond (not b) (1 + before byte cs) 0) e ∙ one

either_way : (b : Bool) → (b ≡ true) ⊎ (b ≡ false)
either_way true = inl refl
either_way false = inr refl

pub before_within : (byte : ℕ) (xs : List ℕ) → before byte xs ≤ length xs
before_within byte [] = omega arith
before_within byte (c ∷ cs) =
    let rest : before byte cs ≤ length cs = before_within byte cs in
    elim (either_way (eqb c byte)) [ inl e ↦ omega (arith, before_same byte c cs e) | inr e ↦ omega (arith, before_other byte c cs e) ]

-- what follows a place
pub rest_is : (xs rest : List ℕ) (place : ℕ) → rest ≡ slice_range xs place (length xs) → rest ≡ drop place xs
rest_is xs rest place e = e ∙ take_all (length xs - place) (drop place xs) (omega (arith, length-drop place xs))

-- what a search found, and the length where it found nothing
pub found_or : (byte : ℕ) (xs : List ℕ) (n : ℕ) → n ≡ unwrap_or (position (λ b. eqb b byte) xs) (length xs) → n ≡ before byte xs
found_or byte xs n e =
    elim (cases_lt (before byte xs) (length xs)) [
      | inl h ↦ e ∙ ap (λ t. unwrap_or (cond t (Some (before byte xs)) None) (length xs)) (lt-ltb (before byte xs) (length xs) h)
      | inr h ↦
          let end : length xs ≡ before byte xs = omega (arith, before_within byte xs) in
          e ∙ ap (λ t. unwrap_or (cond t (Some (before byte xs)) None) (length xs)) (le-ltb (before byte xs) (length xs) h) ∙ end
    ]

-- a search finds the first
pub found_at : (byte : ℕ) (xs : List ℕ) (n : ℕ) → Some n ≡ position (λ b. eqb b byte) xs → (n ≡ before byte xs) × (n < length xs)
found_at byte xs n e =
    elim (cases_lt (before byte xs) (length xs)) [
      | inl h ↦
          let here : n ≡ before byte xs = ap (λ o. unwrap_or o n) (e ∙ ap (λ t. cond t (Some (before byte xs)) None) (lt-ltb (before byte xs) (length xs) h)) in
          (here, omega (arith, h))
      | inr h ↦ absurd (some_none n (e ∙ ap (λ t. cond t (Some (before byte xs)) None) (le-ltb (before byte xs) (length xs) h)))
    ]

-- and finds nothing only where there is none
pub not_found : (byte : ℕ) (xs : List ℕ) → None ≡ position (λ b. eqb b byte) xs → length xs ≤ before byte xs
not_found byte xs e =
    elim (cases_lt (before byte xs) (length xs)) [
      | inl h ↦ absurd (some_none (before byte xs) (sym (e ∙ ap (λ t. cond t (Some (before byte xs)) None) (lt-ltb (before byte xs) (length xs) h))))
      | inr h ↦ h
    ]

-- ---- Words

words_space : (c : ℕ) (cs : List ℕ) → eqb c 32 ≡ true → words (c ∷ cs) ≡ [] ∷ words cs
unfolding words
words_space c cs e = ap (λ b. cond b ([] ∷ words cs) (in_front c (words cs))) e

words_byte : (c : ℕ) (cs : List ℕ) → eqb c 32 ≡ false → words (c ∷ cs) ≡ in_front c (words cs)
unfolding words
words_byte c cs e = ap (λ b. cond b ([] ∷ words cs) (in_front c (words cs))) e

-- up to the first space
words_mid : (xs : List ℕ) → before 32 xs < length xs → words xs ≡ take (before 32 xs) xs ∷ words (drop (suc (before 32 xs)) xs)
words_mid [] h = absurd (omega arith)
words_mid (c ∷ cs) h =
    elim (either_way (eqb c 32)) [
      | inl e ↦ words_space c cs e ∙ sym (ap (λ n. take n (c ∷ cs) ∷ words (drop (suc n) (c ∷ cs))) (before_same 32 c cs e))
      | inr e ↦
          let n = before_other 32 c cs e in
          words_byte c cs e ∙ ap (in_front c) (words_mid cs (omega arith)) ∙ sym (ap (λ n. take n (c ∷ cs) ∷ words (drop (suc n) (c ∷ cs))) n)
    ]

-- and without one, all
words_last : (xs : List ℕ) → length xs ≤ before 32 xs → words xs ≡ xs ∷ []
unfolding words
words_last [] h = refl
words_last (c ∷ cs) h =
    elim (either_way (eqb c 32)) [
      | inl e ↦ absurd (omega (arith, before_same 32 c cs e))
      | inr e ↦ words_byte c cs e ∙ ap (in_front c) (words_last cs (omega (arith, before_other 32 c cs e)))
    ]

pub from_inside : (place : ℕ) (text : List ℕ) → place ≤ length text → words_from place text ≡ words (drop place text)
unfolding words_from
from_inside place text h = ap (λ b. cond b (words (drop place text)) []) (le-leb place (length text) h)

-- past the end there is no word
pub none_past : (place : ℕ) (text : List ℕ) → length text < place → words_from place text ≡ []
unfolding words_from
none_past place text h = ap (λ b. cond b (words (drop place text)) []) (lt-leb place (length text) h)

-- the word at a place, and those behind it
pub word_at : (place : ℕ) (text : List ℕ) → place ≤ length text → words_from place text ≡ take (before 32 (drop place text)) (drop place text) ∷ words_from (place + before 32 (drop place text) + 1) text
word_at place text h =
    let rest : List ℕ = drop place text in
    let n : ℕ = before 32 rest in
    let size : length rest ≡ length text - place = length-drop place text in
    elim (split n (length rest)) [
      | inl short ↦
          let on : place + suc n ≡ place + n + 1 = omega arith in
          from_inside place text h ∙ words_mid rest short
          ∙ ap (λ ws. take n rest ∷ ws) (ap words (drop-drop (suc n) place text ∙ ap (λ k. drop k text) on) ∙ sym (from_inside (place + n + 1) text (omega arith)))
      | inr long ↦
          from_inside place text h ∙ words_last rest long ∙ ap (λ w. w ∷ []) (sym (take_all n rest long))
          ∙ ap (λ ws. take n rest ∷ ws) (sym (none_past (place + n + 1) text (omega arith)))
    ]
  where
    split : (a b : ℕ) → (a < b) ⊎ (b ≤ a)
    split a b = cases_lt a b

-- the same in the words of a rest that was found
pub word_found : (place n : ℕ) (text rest : List ℕ) → place ≤ length text → rest ≡ drop place text → n ≡ before 32 rest → words_from place text ≡ take n rest ∷ words_from (place + (n + 1)) text
word_found place n text rest h r e =
    let size : before 32 (drop place text) ≡ n = sym (e ∙ ap (before 32) r) in
    let on : place + n + 1 ≡ place + (n + 1) = omega arith in
    word_at place text h ∙ ap (λ k. take k (drop place text) ∷ words_from (place + k + 1) text) size ∙ ap (λ xs. take n xs ∷ words_from (place + n + 1) text) (sym r)
    ∙ ap (λ k. take n rest ∷ words_from k text) on

-- ---- Parts

pub part_is : (n : ℕ) (xs : List ℕ) → take n xs ≡ take (length (take n xs)) xs
part_is n xs =
    elim (cases_lt n (length xs)) [
      | inl short ↦ ap (λ k. take k xs) (sym (length-take-le n xs (omega arith)))
      | inr long ↦ take_all n xs long ∙ sym (take_all (length xs) xs (omega arith)) ∙ ap (λ l. take (length l) xs) (sym (take_all n xs long))
    ]

-- ---- Lines

lines_feed : (c : ℕ) (cs : List ℕ) → eqb c 10 ≡ true → lines (c ∷ cs) ≡ (c ∷ []) ∷ lines cs
unfolding lines
lines_feed c cs e = ap (λ b. cond b ((c ∷ []) ∷ lines cs) (in_front c (lines cs))) e

lines_byte : (c : ℕ) (cs : List ℕ) → eqb c 10 ≡ false → lines (c ∷ cs) ≡ in_front c (lines cs)
unfolding lines
lines_byte c cs e = ap (λ b. cond b ((c ∷ []) ∷ lines cs) (in_front c (lines cs))) e

-- the first line goes up to the first line feed, or to the end
pub first_line : (xs : List ℕ) → 0 < length xs → lines xs ≡ take (suc (before 10 xs)) xs ∷ lines (drop (suc (before 10 xs)) xs)
unfolding lines
first_line [] h = absurd (omega arith)
first_line (c ∷ []) h =
    elim (either_way (eqb c 10)) [
      | inl e ↦ lines_feed c [] e ∙ sym (ap (λ n. take (suc n) (c ∷ []) ∷ lines (drop (suc n) (c ∷ []))) (before_same 10 c [] e))
      | inr e ↦ lines_byte c [] e ∙ sym (ap (λ n. take (suc n) (c ∷ []) ∷ lines (drop (suc n) (c ∷ []))) (before_other 10 c [] e))
    ]
first_line (c ∷ (d ∷ cs)) h =
    elim (either_way (eqb c 10)) [
      | inl e ↦ lines_feed c (d ∷ cs) e ∙ sym (ap (λ n. take (suc n) (c ∷ (d ∷ cs)) ∷ lines (drop (suc n) (c ∷ (d ∷ cs)))) (before_same 10 c (d ∷ cs) e))
      | inr e ↦
          lines_byte c (d ∷ cs) e ∙ ap (in_front c) (first_line (d ∷ cs) (omega arith))
          ∙ sym (ap (λ n. take (suc n) (c ∷ (d ∷ cs)) ∷ lines (drop (suc n) (c ∷ (d ∷ cs)))) (before_other 10 c (d ∷ cs) e))
    ]

text_feed : (c : ℕ) (cs : List ℕ) → eqb c 10 ≡ true → text_of (c ∷ cs) ≡ at_end cs []
unfolding text_of
text_feed c cs e = ap (λ b. cond b (at_end cs []) (when_some (text_of cs) None (λ t. Some (c ∷ t)))) e

text_byte : (c : ℕ) (cs : List ℕ) → eqb c 10 ≡ false → text_of (c ∷ cs) ≡ when_some (text_of cs) None (λ t. Some (c ∷ t))
unfolding text_of
text_byte c cs e = ap (λ b. cond b (at_end cs []) (when_some (text_of cs) None (λ t. Some (c ∷ t)))) e

-- its text ends before the line feed
pub first_text : (xs : List ℕ) → before 10 xs < length xs → text_of (take (suc (before 10 xs)) xs) ≡ Some (take (before 10 xs) xs)
first_text [] h = absurd (omega arith)
first_text (c ∷ cs) h =
    elim (either_way (eqb c 10)) [
      | inl e ↦ let n = before_same 10 c cs e in ap (λ n. text_of (take (suc n) (c ∷ cs))) n ∙ text_feed c [] e ∙ sym (ap (λ n. Some (take n (c ∷ cs))) n)
      | inr e ↦
          let n = before_other 10 c cs e in
          ap (λ n. text_of (take (suc n) (c ∷ cs))) n ∙ text_byte c (take (suc (before 10 cs)) cs) e
          ∙ ap (λ o. when_some o None (λ t. Some (c ∷ t))) (first_text cs (omega arith)) ∙ sym (ap (λ n. Some (take n (c ∷ cs))) n)
    ]

-- and without a line feed there is none
pub no_text : (xs : List ℕ) → length xs ≤ before 10 xs → text_of xs ≡ None
unfolding text_of
no_text [] h = refl
no_text (c ∷ cs) h =
    elim (either_way (eqb c 10)) [
      | inl e ↦ absurd (omega (arith, before_same 10 c cs e))
      | inr e ↦ text_byte c cs e ∙ ap (λ o. when_some o None (λ t. Some (c ∷ t))) (no_text cs (omega (arith, before_other 10 c cs e)))
    ]
