-- Words that are taken one after another
use Rattle.std.proofs.Common.{◌≡◌, ℕ, ◌+◌, ◌<◌, Bool, true, false, pos, ltb, Bor, List, [], ◌∷◌, length, take, MatchOption, IfSome, subst, sym, refl, ap, ◌∙◌, inl, inr, arith, w32, to_z, Option, None, Some}
use Rattle.std.specs.Prelude.{option_map}
use Rattle.std.proofs.lemmas.Int.{ints}
use Rattle.std.specs.Bool.{then_some}
use Rattle.std.proofs.lemmas.Bool.{ne_eqb, cases_lt, lt-ltb, le-ltb}
use Rattle.rules.specs.Lists.{when_some}
use Rattle.rules.specs.Trace.{first_as, next, at_end, a_byte, asks_by, spaced}
use Rattle.trace.specs.declared.command.Command.{Command}
use Rattle.trace.specs.declared.fields.Fields.{Fields}
use Rattle.trace.specs.Meaning.{meaning, words_left, read_as, TakesWord}
use Rattle.trace.proofs.Finding.{some_none, none_past, word_at}

module _ {A B : Type 0} (it : List ℕ → Option A) (ws : List (List ℕ)) (f : A → List (List ℕ) → Option B) where
  -- the word is what it should be, and the words behind it go on
  pub next_is : (a : A) (rest : List (List ℕ)) → Some (a, rest) ≡ first_as it ws → next it ws f ≡ f a rest
  next_is a rest e = ap (λ o. when_some o None (λ p. f p.0 p.1)) (sym e)

  -- it is not, or there is none
  pub next_fails : None ≡ first_as it ws → next it ws f ≡ None
  next_fails e = ap (λ o. when_some o None (λ p. f p.0 p.1)) (sym e)

-- what a reader makes of the word that is taken
module _ {T A : Type 0} (means : T → A) (it : List ℕ → Option A) where
  by_first : (ws : List (List ℕ)) → first_as it ws ≡ when_some (first_as Some ws) None (λ p. when_some (it p.0) None (λ a. Some (a, p.1)))
  by_first [] = refl
  by_first (w ∷ ws) = refl

  told_as : (r : Option T) (ws : List (List ℕ)) → when_some (option_map means r) None (λ a. Some (a, ws)) ≡ read_as means r ws
  told_as None ws = refl
  told_as (Some t) ws = refl

  pub reads : (before after : Fields) (r : Option T) (P : Bor (List ℕ) → Type 0)
      → (word : Option (Bor (List ℕ))) × TakesWord before after word × MatchOption word (r ≡ None) (λ w. (option_map means r ≡ it w.now) × P w)
      → read_as means r (words_left after) ≡ first_as it (words_left before)
  reads before after r P (None, taken, e) =
      ap (λ r. read_as means r (words_left after)) e ∙ ap (λ o. when_some o None (λ p. when_some (it p.0) None (λ a. Some (a, p.1)))) taken.0 ∙ sym (by_first (words_left before))
  reads before after r P (Some w, taken, e) =
      sym (told_as r (words_left after)) ∙ ap (λ o. when_some o None (λ a. Some (a, words_left after))) e.0
      ∙ ap (λ o. when_some o None (λ p. when_some (it p.0) None (λ a. Some (a, p.1)))) taken.0 ∙ sym (by_first (words_left before))

  -- the same where the reader promises no more
  pub reads_so : (before after : Fields) (r : Option T)
      → (word : Option (Bor (List ℕ))) × TakesWord before after word × MatchOption word (r ≡ None) (λ w. option_map means r ≡ it w.now)
      → read_as means r (words_left after) ≡ first_as it (words_left before)
  reads_so before after r (None, taken, e) = reads before after r (λ w. Unit {0}) (None, taken, e)
  reads_so before after r (Some w, taken, e) = reads before after r (λ w. Unit {0}) (Some w, taken, (e, tt))

-- a number that was read is small
pub small : (before after : Fields) (n : ℕ) (P : Bor (List ℕ) → Type 0)
    → (word : Option (Bor (List ℕ))) × TakesWord before after word × MatchOption word (Some n ≡ None) (λ w. P w × (n < 1000000000))
    → n < 1000000000
small before after n P (None, taken, e) = absurd (some_none n e)
small before after n P (Some w, taken, e) = e.1

pub unsigned : (n : ℕ) → n < 1000000000 → to_z w32 n ≡ pos n
unsigned n h = omega (arith, ints)

-- at the end the command stands
pub stands : (f : Fields) (c : Command) (r : Option Command) → r ≡ then_some (ltb (length f.text.now) f.place) c → option_map meaning r ≡ at_end (words_left f) (meaning c)
stands f c r e =
    ap (option_map meaning) e
    ∙ elim (cases_lt (length f.text.now) f.place) [
      | inl h ↦
          ap (λ b. option_map meaning (then_some b c)) (lt-ltb (length f.text.now) f.place h)
          ∙ sym (ap (λ ws. at_end ws (meaning c)) (none_past f.place f.text.now h))
      | inr h ↦
          ap (λ b. option_map meaning (then_some b c)) (le-ltb (length f.text.now) f.place h)
          ∙ sym (ap (λ ws. at_end ws (meaning c)) (word_at f.place f.text.now h))
    ]

-- ---- By the letter

pub letter_is : (ws rest : List (List ℕ)) (letter l : ℕ) → Some (letter, rest) ≡ first_as a_byte ws → letter ≡ l → next a_byte ws asks_by ≡ asks_by l rest
letter_is ws rest letter l e is = next_is a_byte ws asks_by letter rest e ∙ ap (λ b. asks_by b rest) is

pub no_letter : (ws : List (List ℕ)) (l : ℕ) → (l ≡ 66 → ⊥) → (l ≡ 83 → ⊥) → (l ≡ 90 → ⊥) → (l ≡ 84 → ⊥) → (l ≡ 80 → ⊥) → (l ≡ 78 → ⊥) → (l ≡ 87 → ⊥) → (l ≡ 79 → ⊥) → (l ≡ 82 → ⊥)
    → (l ≡ 76 → ⊥) → asks_by l ws ≡ None
unfolding asks_by
no_letter ws l b s z t p n w o r last =
    rw (ne_eqb l 66 b, ne_eqb l 83 s, ne_eqb l 90 z, ne_eqb l 84 t, ne_eqb l 80 p, ne_eqb l 78 n, ne_eqb l 87 w, ne_eqb l 79 o, ne_eqb l 82 r, ne_eqb l 76 last)

-- ---- Places

-- a word was taken of the text, and the place is then behind it and its space
abbrev pub Taken : (before after : Fields) → Type 0
Taken before after = (word : List ℕ) × (words_left before ≡ word ∷ words_left after) × (after.place ≡ before.place + (length word + 1))

first_is : (ws rest : List (List ℕ)) (w : List ℕ) → Some (w, rest) ≡ first_as Some ws → ws ≡ w ∷ rest
first_is [] rest w e = let P : Option (List ℕ × List (List ℕ)) → Type 0 = λ o. MatchOption o ⊥ (λ p. Unit {0}) in absurd (subst P e tt)
first_is (v ∷ vs) rest w e = sym (ap (λ o. when_some o [] (λ p. p.0 ∷ p.1)) e)

-- what was read was read of a word that was taken
pub taken : {T : Type 0} (before after : Fields) (t : T) (P : Bor (List ℕ) → Type 0)
    → (word : Option (Bor (List ℕ))) × TakesWord before after word × MatchOption word (Some t ≡ None) P
    → Taken before after
taken {T} before after t P (None, is, e) = let D : Option T → Type 0 = λ o. MatchOption o ⊥ (λ k. Unit {0}) in absurd (subst D e tt)
taken before after t P (Some w, is, e) = (w.now, first_is (words_left before) (words_left after) w.now is.0, is.3)

-- where three words were taken
pub behind_three : (a b c d : Fields) → Taken a b → Taken b c → Taken c d → d.place ≡ a.place + spaced (take 3 (words_left a))
behind_three a b c d (x, ex, px) (y, ey, py) (z, ez, pz) =
    let three : words_left a ≡ x ∷ y ∷ z ∷ words_left d = ex ∙ ap (λ ws. x ∷ ws) ey ∙ ap (λ ws. x ∷ y ∷ ws) ez in
    omega (arith, px, py, pz, ap (λ ws. spaced (take 3 ws)) three)

-- a command that may be given has what it has
pub then_given : (P : Command → Type 0) (r : Option Command) (b : Bool) (c : Command) → r ≡ then_some b c → P c → IfSome r P
then_given P r true c e h = subst (λ r. IfSome r P) (sym e) h
then_given P r false c e h = subst (λ r. IfSome r P) (sym e) tt
