-- The pages of a release, one by one along the round
use Rattle.std.proofs.Common.{◌≡◌, ℕ, zero, suc, ◌+◌, ◌-◌, ◌*◌, ◌%◌, ◌^◌, ◌<◌, ◌≤◌, Bool, true, false, cond, ◌||◌, eqb, List, [], ◌∷◌, ◌++◌, map, drop, length, get_or, take, set, MatchOption, sym, refl, ap, ◌∙◌, subst, ap₂, inl, inr, append_assoc, append-nil, arith, Option, None, Some, Result, Ok, Err, IsOk}
use Rattle.std.specs.Prelude.{option_map}
use Rattle.std.proofs.lemmas.List.{length-append, length-drop, take_all, take_more}
use Rattle.std.proofs.lemmas.Bool.{lt-ltb}
use Rattle.rules.specs.Lists.{Among, when_some, from, joined}
use Rattle.rules.specs.Rows.{blank_row}
use Rattle.rules.specs.Media.{Shaped, Outcome, accepted, refused, erases, one_more}
use Rattle.rules.specs.Memory.{Rows, pages, page_of, rows_of, intact_in, dated_from, newest, all_blank, stops_at, erasable, released_pages, round, blanked, erased}
use Rattle.rules.proofs.Rounds.{pages_append, turn, turn_among}
use Rattle.rules.proofs.Erasing.{blanked_length}
use Rattle.rules.proofs.Memories.{first_page, round_is, start_fits}
use Rattle.media.specs.declared.medium.MediumFault.{MediumFault}
use Rattle.media.specs.Outcomes.{fault_number, fault_place, outcome}
use Rattle.memory.specs.declared.entry.Entry.{Entry}
use Rattle.memory.specs.Entries.{entry_of}
use Rattle.memory.specs.Releases.{releases}
use Rattle.memory.proofs.Judged.{not_both}

-- whether a release stops, by whether it stops at a date and what is told of the newest record
pub stops_told :
    (rows : Rows) (day page : ℕ) (t r : Bool) (o : Option Entry) (P : Entry → Type 0) → t ≡ dated_from day (intact_in rows (rows_of page)) → option_map entry_of o ≡ newest rows
    → MatchOption o (r ≡ false) P → ((e : Entry) → P e → r ≡ eqb (page_of e.row) page) → (t || r) ≡ stops_at rows day page
unfolding stops_at
stops_told rows day page t r o P is e h k = ap₂ ◌||◌ is (by o h ∙ ap (λ o. when_some o false (λ n. eqb (page_of n.0) page)) e)
  where
    by : (o : Option Entry) → MatchOption o (r ≡ false) P → r ≡ when_some (option_map entry_of o) false (λ n. eqb (page_of n.0) page)
    by None h = h
    by (Some e) h = k e h

pub stops_dated : (rows : Rows) (day page : ℕ) → true ≡ dated_from day (intact_in rows (rows_of page)) → true ≡ stops_at rows day page
unfolding stops_at
stops_dated rows day page e = ap (λ t. t || when_some (newest rows) false (λ n. eqb (page_of n.0) page)) e

pub first_fits : (rows : Rows) (count : ℕ) → length rows ≡ 16 * count → first_page (newest rows) ≤ pages rows
first_fits rows count whole = omega (arith, start_fits rows count whole)

-- at first the release goes over all pages of the round
pub erase_begin : (rows : Rows) (day : ℕ) (found : List ℕ) → found ≡ []
    → (released_pages rows day ≡ found ++ erasable rows day (turn (first_page (newest rows)) (pages rows))) × (length found ≤ 0)
unfolding released_pages
erase_begin rows day found e =
    (ap (erasable rows day) (round_is rows) ∙ ap (λ ps. ps ++ erasable rows day (turn (first_page (newest rows)) (pages rows))) (sym e), omega (arith, ap length e))

module _ (rows : Rows) (day : ℕ) (found : List ℕ) {left rest all : List ℕ} {p : ℕ} (more : left ≡ p ∷ rest) (so_far : all ≡ found ++ erasable rows day left) where
  erase_next : erasable rows day left ≡ cond (stops_at rows day p) [] (cond (all_blank rows (rows_of p)) (erasable rows day rest) (p ∷ erasable rows day rest))
  unfolding erasable
  erase_next = ap (erasable rows day) more

  -- the release stops at the page
  pub erase_stops : true ≡ stops_at rows day p → all ≡ found
  erase_stops stops =
      so_far ∙ ap (λ ps. found ++ ps) (erase_next ∙ ap (λ t. cond t [] (cond (all_blank rows (rows_of p)) (erasable rows day rest) (p ∷ erasable rows day rest))) (sym stops))
      ∙ append-nil found

  -- it goes on after a blank page, and after one that is found
  pub erase_passes : false ≡ stops_at rows day p → true ≡ all_blank rows (rows_of p) → all ≡ found ++ erasable rows day rest
  erase_passes stays blank =
      so_far ∙ ap (λ ps. found ++ ps)
      (erase_next ∙ ap₂ (λ t b. cond t [] (cond b (erasable rows day rest) (p ∷ erasable rows day rest))) (sym stays) (sym blank))

  pub erase_finds : (then : List ℕ) → then ≡ found ++ (p ∷ []) → false ≡ stops_at rows day p → false ≡ all_blank rows (rows_of p) → all ≡ then ++ erasable rows day rest
  erase_finds then one_more stays blank =
      so_far ∙ ap (λ ps. found ++ ps)
      (erase_next ∙ ap₂ (λ t b. cond t [] (cond b (erasable rows day rest) (p ∷ erasable rows day rest))) (sym stays) (sym blank))
      ∙ sym (append_assoc found (p ∷ []) (erasable rows day rest))
      ∙ ap (λ ps. ps ++ erasable rows day rest) (sym one_more)

pub erase_none : (rows : Rows) (day : ℕ) (found : List ℕ) {left all : List ℕ} → all ≡ found ++ erasable rows day left → left ≡ [] → all ≡ found
unfolding erasable
erase_none rows day found so_far e = so_far ∙ ap (λ ps. found ++ erasable rows day ps) e ∙ append-nil found

among_drop : (p n : ℕ) (ps : List ℕ) → Among p (drop n ps) → Among p ps
among_drop p zero ps m = m
among_drop p (suc n) [] m = absurd m
among_drop p (suc n) (q ∷ ps) m = inr (among_drop p n ps m)

length-from : (a n : ℕ) → length (from a n) ≡ n
length-from a zero = refl
length-from a (suc n) = ap suc (length-from (suc a) n)

-- a page of the round is one that a memory can have, and there are no more of them
module _ (rows : Rows) (shape : Shaped rows) (passed rest : List ℕ) (p : ℕ) (more : drop (length passed) (turn (first_page (newest rows)) (pages rows)) ≡ p ∷ rest) where
  fits : first_page (newest rows) ≤ pages rows
  fits = first_fits rows shape.pages shape.whole

  pub page_fits : p < 64
  page_fits =
      let among = among_drop p (length passed) (turn (first_page (newest rows)) (pages rows)) (subst (Among p) (sym more) (inl refl)) in
      omega (arith, turn_among (first_page (newest rows)) (pages rows) p fits among, shape.whole, shape.most)

  pub passed_fits : length passed < 64
  passed_fits =
      let first = first_page (newest rows) in
      let whole : length (turn first (pages rows)) ≡ length (from first (pages rows - first)) + length (from 0 first) = length-append (from first (pages rows - first)) (from 0 first) in
      let left : length (drop (length passed) (turn first (pages rows))) ≡ suc (length rest) = ap length more in
      omega
      (arith, left, length-drop (length passed) (turn first (pages rows)), whole, length-from first (pages rows - first), length-from 0 first, fits, shape.whole, shape.most)

-- ---- Erasing them

-- a page that a release erases is a page of the memory
module _ (rows : Rows) (day : ℕ) where
  erasable_among : (p : ℕ) (ps : List ℕ) → Among p (erasable rows day ps) → Among p ps
  unfolding erasable
  erasable_among p [] m = absurd m
  erasable_among p (q ∷ ps) m = at (stops_at rows day q) (all_blank rows (rows_of q)) (erasable_among p ps) m
    where
      at : (s b : Bool) → (Among p (erasable rows day ps) → Among p ps) → Among p (cond s [] (cond b (erasable rows day ps) (q ∷ erasable rows day ps))) → Among p (q ∷ ps)
      at true b later m = absurd m
      at false true later m = inr (later m)
      at false false later (inl e) = inl e
      at false false later (inr m) = inr (later m)

  pub released_inside : (count : ℕ) → length rows ≡ 16 * count → (p : ℕ) → Among p (released_pages rows day) → p < pages rows
  unfolding released_pages
  released_inside count whole p m =
      turn_among (first_page (newest rows)) (pages rows) p (first_fits rows count whole) (subst (Among p) (round_is rows) (erasable_among p (round rows) m))

pub getD_among : (xs : List ℕ) (i : ℕ) → i < length xs → Among (get_or xs i 0) xs
getD_among [] i h = absurd (omega arith)
getD_among (x ∷ xs) zero h = inl refl
getD_among (x ∷ xs) (suc i) h = inr (getD_among xs i (omega arith))

blanked_append : (rows : Rows) (is js : List ℕ) → blanked (blanked rows is) js ≡ blanked rows (is ++ js)
unfolding blanked
blanked_append rows [] js = refl
blanked_append rows (i ∷ is) js = blanked_append (set rows i blank_row) is js

-- one page after others
pub erased_push : (rows : Rows) (ps : List ℕ) (p : ℕ) → erased (erased rows ps) (p ∷ []) ≡ erased rows (ps ++ (p ∷ []))
unfolding erased
erased_push rows ps p =
    blanked_append rows (joined (map rows_of ps)) (joined (map rows_of (p ∷ []))) ∙ ap (blanked rows) (sym (pages_append ps (p ∷ [])))

pub erased_none : (rows : Rows) → erased rows [] ≡ rows
unfolding erased blanked
erased_none rows = refl

pub erased_length : (rows : Rows) (ps : List ℕ) → length (erased rows ps) ≡ length rows
unfolding erased
erased_length rows ps = blanked_length rows (joined (map rows_of ps))

-- what an erase inside the memory leaves
pub erase_told :
    (rows left : Rows) (writes then page : ℕ) (o : Outcome) → page < pages rows → erases rows writes page ≡ (o, left, then)
    → (left ≡ erased rows (page ∷ [])) × (then ≡ one_more writes)
erase_told rows left writes then page o inside e =
    let done = sym e ∙ ap (λ t. cond t (accepted, erased rows (page ∷ []), one_more writes) (refused 2 page, rows, writes)) (lt-ltb page (pages rows) inside) in
    (ap (λ x. x.1) done, ap (λ x. x.2) done)

-- and that it is not refused
pub erase_takes :
    {A : Type 0} (rows left : Rows) (writes then page : ℕ) (r : Result A MediumFault) → page < pages rows → erases rows writes page ≡ (outcome r, left, then) → IsOk r
erase_takes rows left writes then page (Ok x) inside e = refl
erase_takes rows left writes then page (Err f) inside e =
    let done = ap (λ t. cond t (accepted, erased rows (page ∷ []), one_more writes) (refused 2 page, rows, writes)) (lt-ltb page (pages rows) inside) in
    absurd (not_both (fault_number f) (fault_place f) (ap (λ x. x.0) (sym done ∙ e)))

pub count_on : (writes i : ℕ) → one_more ((writes + i) % 2 ^ 32) ≡ (writes + (i + 1)) % 2 ^ 32
count_on writes i = omega arith

pub count_none : (writes : ℕ) → writes < 2 ^ 32 → writes ≡ (writes + 0) % 2 ^ 32
count_none writes h = omega arith

-- the next page of the release is erased
module _ (before : Rows) (day count : ℕ) (whole : length before ≡ 16 * count) (ps : List ℕ) (all : ps ≡ released_pages before day) (i : ℕ) (inside : i < length ps) where
  next_inside : get_or ps i 0 < pages before
  next_inside = released_inside before day count whole (get_or ps i 0) (subst (Among (get_or ps i 0)) all (getD_among ps i inside))

  -- the medium does not refuse it
  pub release_takes :
      {A : Type 0} (rows left : Rows) (writes then : ℕ) (r : Result A MediumFault) → rows ≡ erased before (take i ps)
      → erases rows writes (get_or ps i 0) ≡ (outcome r, left, then) → IsOk r
  release_takes rows left writes then r so_far e =
      let same : length rows ≡ length before = ap length so_far ∙ erased_length before (take i ps) in
      erase_takes rows left writes then (get_or ps i 0) r (omega (arith, next_inside, same)) e

  pub release_step :
      (rows left : Rows) (start writes then : ℕ) (o : Outcome) → rows ≡ erased before (take i ps) → writes ≡ (start + i) % 2 ^ 32
      → erases rows writes (get_or ps i 0) ≡ (o, left, then)
      → (left ≡ erased before (take (i + 1) ps)) × (then ≡ (start + (i + 1)) % 2 ^ 32)
  release_step rows left start writes then o so_far counted e =
      let page = get_or ps i 0 in
      let same : length rows ≡ length before = ap length so_far ∙ erased_length before (take i ps) in
      let option_map = erase_told rows left writes then page o (omega (arith, next_inside, same)) e in (
        option_map.0 ∙ (ap (λ r. erased r (page ∷ [])) so_far ∙ (erased_push before (take i ps) page ∙ ap (erased before) (sym (take_more ps i 0 inside)))),
        option_map.1 ∙ (ap one_more counted ∙ count_on start i),
      )

-- all pages of the release are erased
pub release_done :
    (before rows : Rows) (day start writes : ℕ) (ps : List ℕ) (i : ℕ) → ps ≡ released_pages before day → i ≡ length ps
    → rows ≡ erased before (take i ps) → writes ≡ (start + i) % 2 ^ 32
    → releases before start day ≡ (length ps, rows, writes)
release_done before rows day start writes ps i all ends left counted =
    ap (λ qs. (length qs, erased before qs, (start + length qs) % 2 ^ 32)) (sym all)
    ∙ ap₂ (λ r w. (length ps, r, w)) (sym (left ∙ ap (erased before) (take_all i ps (omega (arith, ends))))) (sym (counted ∙ ap (λ n. (start + n) % 2 ^ 32) ends))
