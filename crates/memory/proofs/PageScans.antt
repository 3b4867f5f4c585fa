-- The rows of a page, one by one
use Rattle.std.proofs.Common.{◌≡◌, ℕ, zero, suc, ◌+◌, ◌-◌, ◌*◌, Bool, true, false, cond, not, ◌&&◌, ◌||◌, eqb, ltb, nat_le, List, [], ◌∷◌, ◌++◌, length, MatchOption, sym, refl, ap, ◌∙◌, ap₂, subst, arith, Option, None, Some}
use Rattle.std.proofs.lemmas.Bool.{ne_eqb}
use Rattle.std.specs.Bool.{then_some}
use Rattle.std.specs.List.{list_all, list_any, find, range_with_len}
use Rattle.std.specs.declared.ops.Range.{Range}
use Rattle.std.proofs.iter.Yields.{nat_range_steps}
use Rattle.std.proofs.iter.runs.Sources.{nat_range_steps_back}
use Rattle.std.proofs.lemmas.Iterator.{YieldsList, YieldsList-from_range}
use Rattle.std.proofs.lemmas.Iterator.Consumers.{YieldsList-from_shown}
use Rattle.rules.specs.Lists.{from, when_some}
use Rattle.rules.specs.Records.{Record}
use Rattle.rules.specs.Rows.{read_row, is_blank}
use Rattle.rules.specs.Memory.{Rows, row_at, rows_of, intact_in, after_nonblank, free_in, holds_record, dated_from, all_blank}
use Rattle.memory.specs.Entries.{entry_in}
use Rattle.rules.proofs.Counting.{from_append, from_among}
use Rattle.rules.proofs.Seen.{seen_none_in}
use Rattle.rules.proofs.Memories.{sight, intact_seen}
use Rattle.rules.proofs.Places.{blank_sight, free_is as first_free}
use Rattle.memory.specs.Rounds.{any_record, free_in_empty}
use Rattle.memory.proofs.Scans.{intact_next}

-- ---- The numbers of a range, from the front and from the back

ranged : (a n : ℕ) → range_with_len a n ≡ from a n
ranged a zero = refl
ranged a (suc n) = let next : a + 1 ≡ suc a = omega arith in ap (λ l. a ∷ l) (ap (λ k. range_with_len k n) next ∙ ranged (suc a) n)

pub counts_up : (s : Range ℕ) (a n : ℕ) → s.start ≡ a → s.end - s.start ≡ n → YieldsList nat_range_steps (λ x. x) s (from a n)
counts_up s a n begins long =
    let P : List ℕ → Type 0 = λ l. YieldsList nat_range_steps (λ x. x) s l in
    subst P (ranged s.start n ∙ ap (λ k. from k n) begins) (YieldsList-from_range s.start s.end n refl long)

-- n numbers that count down to a
abbrev pub down : (a n : ℕ) → List ℕ
down a zero = []
down a (suc n) = (a + n) ∷ down a n

pub counts_down : (s : Range ℕ) → YieldsList nat_range_steps_back (λ x. x) s (down s.start (s.end - s.start))
counts_down s = YieldsList-from_shown nat_range_steps_back (λ x. x) (λ s. down s.start (s.end - s.start)) stops goes s
  where
    stops : (s t : Range ℕ) → nat_range_steps_back s None t → length (down s.start (s.end - s.start)) ≡ 0
    stops s t h = ap (λ n. length (down s.start n)) h.1.0

    goes : (s : Range ℕ) (x : ℕ) (t : Range ℕ) → nat_range_steps_back s (Some x) t → down s.start (s.end - s.start) ≡ x ∷ down t.start (t.end - t.start)
    goes s x t h =
        let one_more : s.end - s.start ≡ suc (t.end - s.start) = omega (arith, h.1.0, h.1.2) in
        let here : s.start + (t.end - s.start) ≡ x = omega (arith, h.1.0, h.1.1, h.1.2) in
        ap (down s.start) one_more ∙ ap₂ (λ y l. y ∷ l) here (ap (λ b. down b (t.end - b)) (sym h.0))

-- ---- The tests of some rows

-- there is a record
abbrev pub is_there : Option (ℕ × Record) → Bool
is_there o = when_some o false (λ x. true)

-- the record is of the day or later
abbrev pub is_dated : (day : ℕ) → Option (ℕ × Record) → Bool
is_dated day o = when_some o false (λ x. nat_le day x.1.day)

module _ (rows : Rows) where
  pub blank_rows : (is : List ℕ) → list_all (λ i. is_blank (row_at rows i)) is ≡ all_blank rows is
  unfolding all_blank
  blank_rows [] = refl
  blank_rows (i ∷ is) = ap (λ b. is_blank (row_at rows i) && b) (blank_rows is)

  pub dated_rows : (day : ℕ) (is : List ℕ) → list_any (λ i. is_dated day (entry_in rows i)) is ≡ dated_from day (intact_in rows is)
  unfolding dated_from intact_in
  dated_rows day [] = refl
  dated_rows day (i ∷ is) = ap (λ b. is_dated day (entry_in rows i) || b) (dated_rows day is) ∙ by (entry_in rows i) ∙ sym (ap (dated_from day) (intact_next rows i is))
    where
      by : (o : Option (ℕ × Record)) → (is_dated day o || dated_from day (intact_in rows is)) ≡ dated_from day (when_some o (intact_in rows is) (λ x. x ∷ intact_in rows is))
      by None = refl
      by (Some x) = refl

  pub record_rows : (is : List ℕ) → list_any (λ i. is_there (entry_in rows i)) is ≡ not (eqb (length (intact_in rows is)) 0)
  unfolding intact_in
  record_rows [] = refl
  record_rows (i ∷ is) = ap (λ b. is_there (entry_in rows i) || b) (record_rows is) ∙ by (entry_in rows i) ∙ sym (ap (λ xs. not (eqb (length xs) 0)) (intact_next rows i is))
    where
      by : (o : Option (ℕ × Record))
          → (is_there o || not (eqb (length (intact_in rows is)) 0)) ≡ not (eqb (length (when_some o (intact_in rows is) (λ x. x ∷ intact_in rows is))) 0)
      by None = refl
      by (Some x) = sym (ap not (ne_eqb (suc (length (intact_in rows is))) 0 (λ z. omega arith)))

  -- ---- The free row, from the back

  free_last : (n a so_far : ℕ) → after_nonblank rows so_far (from a (suc n)) ≡ cond (is_blank (row_at rows (a + n))) (after_nonblank rows so_far (from a n)) (a + n + 1)
  unfolding after_nonblank
  free_last zero a so_far = let here : a ≡ a + 0 = omega arith in ap (λ i. cond (is_blank (row_at rows i)) so_far (i + 1)) here
  free_last (suc n) a so_far =
      let here : suc a + n ≡ a + suc n = omega arith in
      let next = cond (is_blank (row_at rows a)) so_far (a + 1) in
      free_last n (suc a) next ∙ ap (λ i. cond (is_blank (row_at rows i)) (after_nonblank rows next (from (suc a) n)) (i + 1)) here

  -- the row after the last that is not blank, the first where all are blank
  free_found : (a n free : ℕ) → MatchOption (find (λ i. not (is_blank (row_at rows i))) (down a n)) (free ≡ a) (λ i. free ≡ i + 1) → free ≡ after_nonblank rows a (from a n)
  unfolding after_nonblank
  free_found a zero free h = h
  free_found a (suc n) free h = at (is_blank (row_at rows (a + n))) (free_found a n free) h ∙ sym (free_last n a a)
    where
      rest : Option ℕ
      rest = find (λ i. not (is_blank (row_at rows i))) (down a n)

      at : (b : Bool) → (MatchOption rest (free ≡ a) (λ i. free ≡ i + 1) → free ≡ after_nonblank rows a (from a n))
          → MatchOption (cond (not b) (Some (a + n)) rest) (free ≡ a) (λ i. free ≡ i + 1)
          → free ≡ cond b (after_nonblank rows a (from a n)) (a + n + 1)
      at true before h = before h
      at false before h = h

  pub free_is :
      (page start end free : ℕ) (last : Option ℕ) (P : ℕ → Type 0) → start ≡ 16 * page → end ≡ 16 * page + 16
      → last ≡ find (λ i. not (is_blank (row_at rows i))) (down start (end - start)) → MatchOption last (free ≡ start) P → ((i : ℕ) → P i → free ≡ i + 1)
      → (then_some (ltb free end) free) ≡ free_in rows page
  unfolding free_in
  free_is page start end free last P begins ends e h k = by (ltb free end) ∙ ap₂ (λ i n. cond (ltb i n) (Some i) None) found ends
    where
      Tells : Option ℕ → Type 0
      Tells o = MatchOption o (free ≡ start) (λ i. free ≡ i + 1)

      tells : (o : Option ℕ) → MatchOption o (free ≡ start) P → Tells o
      tells None h = h
      tells (Some i) h = k i h

      long : end - start ≡ 16
      long = omega arith

      found : free ≡ after_nonblank rows (16 * page) (rows_of page)
      found = free_found start (end - start) free (subst Tells e (tells last h)) ∙ ap₂ (λ a n. after_nonblank rows a (from a n)) begins long

      by : (b : Bool) → (then_some b free) ≡ cond b (Some free) None
      by true = refl
      by false = refl

-- behind a page's free row there is no record
module _ (rows : Rows) (page free : ℕ) (e : free_in rows page ≡ Some free) where
  intact_front : (is js : List ℕ) → intact_in rows js ≡ [] → intact_in rows (is ++ js) ≡ intact_in rows is
  unfolding intact_in
  intact_front [] js none_there = none_there
  intact_front (i ∷ is) js none_there = ap (λ l. when_some (read_row (row_at rows i)) l (λ r. (i, r) ∷ l)) (intact_front is js none_there)

  behind_none : intact_in rows (from free (16 * page + 16 - free)) ≡ []
  behind_none =
      let at = first_free rows page free e in
      intact_seen rows (from free (16 * page + 16 - free))
      ∙ seen_none_in (sight rows) (from free (16 * page + 16 - free))
      (λ j among. let within = from_among free (16 * page + 16 - free) j among in blank_sight rows j (at.blank j (omega (arith, within)) (omega (arith, within))))

  pub holds_before : holds_record rows page ≡ any_record rows (16 * page) free
  unfolding holds_record
  holds_before =
      let at = first_free rows page free e in
      ap (λ xs. not (eqb (length xs) 0))
      (ap (intact_in rows) (sym (from_append (16 * page) (free - 16 * page) (16 * page + 16 - free) free 16 (omega arith) (omega arith)))
      ∙ intact_front (from (16 * page) (free - 16 * page)) (from free (16 * page + 16 - free)) behind_none)

-- the free row of a page, unless a record stands before it
pub free_kept :
    (rows : Rows) (page : ℕ) (o r : Option ℕ) (P : ℕ → Bool → Type 0) → o ≡ free_in rows page
    → MatchOption o (r ≡ None) (λ i. (b : Bool) × P i b × (r ≡ then_some b i)) → ((i : ℕ) (b : Bool) → P i b → b ≡ not (any_record rows (16 * page) i))
    → r ≡ free_in_empty rows page
free_kept rows page None r P e h k = h ∙ by (holds_record rows page) ∙ ap (cond (holds_record rows page) None) e
  where
    by : (b : Bool) → ◌≡◌ {A = Option ℕ} None (cond b None None)
    by true = refl
    by false = refl
free_kept rows page (Some i) r P e h k =
    (h.2 ∙ ap (λ b. then_some b i) (k i h.0 h.1 ∙ ap not (sym (holds_before rows page i (sym e))))) ∙ by (holds_record rows page) ∙ ap (cond (holds_record rows page) None) e
  where
    by : (b : Bool) → (then_some (not b) i) ≡ cond b None (Some i)
    by true = refl
    by false = refl
