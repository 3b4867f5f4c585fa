-- The first page of the round, and the next row
use Rattle.std.proofs.Common.{◌≡◌, ℕ, ◌+◌, ◌-◌, ◌<◌, ◌≤◌, cond, ltb, List, ◌∷◌, ◌++◌, MatchOption, sym, refl, ap, ◌∙◌, ⊎_elim, arith, Option, None, Some}
use Rattle.std.specs.Prelude.{option_map}
use Rattle.std.proofs.lemmas.Bool.{lt-ltb, le-ltb, cases_lt}
use Rattle.rules.specs.Lists.{from, when_some, or_else}
use Rattle.rules.specs.Records.{Record}
use Rattle.rules.specs.Media.{Shaped}
use Rattle.rules.specs.Memory.{Rows, pages, page_of, newest, free_in, free_in_first, next_row}
use Rattle.rules.proofs.Memories.{first_page, round_is, newest_found}
use Rattle.memory.specs.Rounds.{free_in_empty, newest_page, next_page}
use Rattle.memory.specs.declared.page.Page.{Page}
use Rattle.memory.proofs.Scans.{from_next}

-- the free row of the first page, where there are pages
free_head : (rows : Rows) (p : ℕ) (ps : List ℕ) → free_in_first rows (p ∷ ps) ≡ free_in_empty rows p
unfolding free_in_first
free_head rows p ps = refl

module _ (rows : Rows) (shape : Shaped rows) where
  some_pages : 1 ≤ pages rows
  some_pages = omega (arith, shape.whole, shape.least)

  first_of : (p : ℕ) → free_in_first rows (from p (pages rows - p) ++ from 0 p) ≡ free_in_empty rows (cond (ltb p (pages rows)) p 0)
  first_of p = ⊎_elim before after (cases_lt p (pages rows))
    where
      before : p < pages rows → free_in_first rows (from p (pages rows - p) ++ from 0 p) ≡ free_in_empty rows (cond (ltb p (pages rows)) p 0)
      before h =
          ap (λ ps. free_in_first rows (ps ++ from 0 p)) (from_next p (pages rows - p) (pages rows - p - 1) (omega arith))
          ∙ (free_head rows p (from (p + 1) (pages rows - p - 1) ++ from 0 p) ∙ ap (λ t. free_in_empty rows (cond t p 0)) (sym (lt-ltb p (pages rows) h)))

      after : pages rows ≤ p → free_in_first rows (from p (pages rows - p) ++ from 0 p) ≡ free_in_empty rows (cond (ltb p (pages rows)) p 0)
      after h =
          let none_left : pages rows - p ≡ 0 = omega arith in
          ap (λ n. free_in_first rows (from p n ++ from 0 p)) none_left
          ∙ (ap (free_in_first rows) (from_next 0 p (p - 1) (omega (arith, some_pages))) ∙ (free_head rows 0 (from (0 + 1) (p - 1)) ∙ ap (λ t. free_in_empty rows (cond t p 0)) (sym (le-ltb p (pages rows) h))))

  -- the free row of the newest record's page, else that of the page after it
  pub next_is : next_row rows ≡ or_else (when_some (newest_page rows) None (free_in rows)) (free_in_empty rows (next_page rows))
  unfolding next_row
  next_is = ap (or_else here) (ap (free_in_first rows) (round_is rows) ∙ first_of (first_page (newest rows))) ∙ ap (λ o. or_else o (free_in_empty rows (next_page rows))) (by (newest rows))
    where
      here : Option ℕ
      here = when_some (newest rows) None (λ n. free_in rows (page_of n.0))

      by : (o : Option (ℕ × Record)) → when_some o None (λ n. free_in rows (page_of n.0)) ≡ when_some (when_some o None (λ n. Some (page_of n.0))) None (free_in rows)
      by None = refl
      by (Some n) = refl

  page_inside : (i : ℕ) (r : Record) → newest rows ≡ Some (i, r) → page_of i < pages rows
  page_inside i r e = omega (arith, (newest_found rows i r e).inside, shape.whole)

  pub page_fits : (i : ℕ) (r : Record) (page : ℕ) → newest rows ≡ Some (i, r) → page ≡ page_of i → page < 64
  page_fits i r page e here = omega (arith, page_inside i r e, shape.whole, shape.most)

  -- the same, by the newest record's page and what is told of it
  pub next_told :
      (newest_one : Option Page) (o r : Option ℕ) (P : Page → Type 0) (Q : Type 0) → option_map (λ p. p.number) newest_one ≡ newest_page rows
      → MatchOption newest_one (o ≡ None) P → ((p : Page) → P p → o ≡ free_in rows p.number)
      → MatchOption o Q (λ i. r ≡ Some i) → (Q → r ≡ free_in_empty rows (next_page rows))
      → r ≡ next_row rows
  next_told newest_one o r P Q e h k l n = last o l ∙ ap (λ a. or_else a (free_in_empty rows (next_page rows))) (first newest_one e h) ∙ sym next_is
    where
      first : (p : Option Page) → option_map (λ p. p.number) p ≡ newest_page rows → MatchOption p (o ≡ None) P → o ≡ when_some (newest_page rows) None (free_in rows)
      first None e h = h ∙ ap (λ a. when_some a None (free_in rows)) e
      first (Some p) e h = k p h ∙ ap (λ a. when_some a None (free_in rows)) e

      last : (o : Option ℕ) → MatchOption o Q (λ i. r ≡ Some i) → r ≡ or_else (o) (free_in_empty rows (next_page rows))
      last None q = n q
      last (Some i) e = e
