-- The next row takes a record, and what a store answers and leaves
use Rattle.std.proofs.Common.{◌≡◌, ℕ, Bool, true, false, cond, ltb, List, set, Result, Ok, Err, sym, refl, ap, ◌∙◌, Option, None, Some}
use Rattle.std.specs.Option.{ok_or}
use Rattle.rules.specs.Lists.{when_some}
use Rattle.rules.specs.Records.{Record, numbered}
use Rattle.rules.specs.Rows.{packing, is_blank}
use Rattle.rules.specs.Memory.{Rows, row_at, newest, disorder, next_row, next_number}
use Rattle.rules.specs.Media.{Outcome, accepted, refused, programs, one_more}
use Rattle.rules.specs.Terminal.{Answer, gives, refuses}
use Rattle.rules.proofs.BlankRows.{blank_row_is_blank}
use Rattle.rules.proofs.MediaLaws.{programs_blank}
use Rattle.rules.proofs.NextRowLaws.{next_row_is_blank}
use Rattle.memory.specs.Faults.{orders}
use Rattle.memory.specs.declared.fault.MemoryFault.{MemoryFault}
use Rattle.memory.specs.Stores.{is_earlier, number_after, follows, stores}
use Rattle.memory.proofs.Judged.{not_both}

-- a program of the next row is never refused
pub next_row_takes :
    (rows : Rows) (row writes : ℕ) (packed : List ℕ) (left : Rows) (number place then : ℕ) → next_row rows ≡ Some row
    → programs rows writes row packed ≡ (refused number place, left, then) → ⊥
next_row_takes rows row writes packed left number place then e refusal =
    let at = next_row_is_blank rows row e in
    let ones : is_blank (row_at rows row) ≡ true = blank_row_is_blank (row_at rows row) at.1 in
    let taken = programs_blank rows writes row packed (set rows row packed) at.0 ones refl in
    not_both number place (ap (λ p. p.0) (sym taken ∙ refusal))

-- the next row, as a call that refuses a full memory has it
pub row_there : (rows : Rows) (o : Option ℕ) (row : ℕ) (e : MemoryFault) → o ≡ next_row rows → Ok row ≡ ok_or o e → next_row rows ≡ Some row
row_there rows None row e h k = cc
row_there rows (Some i) row e h k = sym h ∙ ap Some (cc k)

pub row_missing : (rows : Rows) (o : Option ℕ) (e f : MemoryFault) → o ≡ next_row rows → ◌≡◌ {A = Result ℕ MemoryFault} (Err f) (ok_or o e) → next_row rows ≡ None
row_missing rows None e f h k = sym h
row_missing rows (Some i) e f h k = cc

-- the record under a number, if that is one of 32 bits
abbrev numbered_within : (is_last : Bool) (number : ℕ) → Record → Outcome × Option Record
numbered_within is_last number r = cond is_last (refused 23 0, None) (accepted, Some (numbered number r))

-- the record that follows has the number that is next
pub follows_next : (rows : Rows) (r : Record) (n : ℕ) → n ≡ next_number rows → false ≡ is_earlier (newest rows) r → follows (newest rows) r ≡ numbered_within (ltb 4294967295 n) n r
unfolding next_number
follows_next rows r n is late =
    let number = number_after (newest rows) in
    let left : Bool → Outcome × Option Record = λ t. cond t (refused 22 0, None) (when_some (cond (ltb 4294967295 number) None (Some number)) (refused 23 0, None) (λ n. (accepted, Some (numbered n r)))) in
    ap left (sym late) ∙ by (ltb 4294967295 number) number ∙ ap (λ n. numbered_within (ltb 4294967295 n) n r) (sym is)
  where
    by : (t : Bool) (n : ℕ) → ◌≡◌ {A = Outcome × Option Record} (when_some (cond t None (Some n)) (refused 23 0, None) (λ n. (accepted, Some (numbered n r)))) (numbered_within t n r)
    by true n = refl
    by false n = refl

-- ---- A store in a memory in order

-- a memory that passed its check is in order
pub checked : (rows : Rows) → accepted ≡ orders rows → disorder rows ≡ None
checked rows e = at (disorder rows) e
  where
    at : (d : Option ℕ) → accepted ≡ when_some d accepted (refused 21) → d ≡ None
    at None e = refl
    at (Some i) e = absurd (not_both 21 i e)

module _ (rows : Rows) (writes : ℕ) (r : Record) where
  -- the record that follows, by whether its stamp is earlier and whether no number is left
  abbrev next_record : (is_early is_last : Bool) (number : ℕ) → Outcome × Option Record
  next_record is_early is_last number =
      cond is_early (refused 22 0, None) (when_some (cond is_last None (Some number)) (refused 23 0, None) (λ n. (accepted, Some (numbered n r))))

  -- and what is left of the store's table, with the next row
  abbrev then_stores : (is_early is_last : Bool) (number : ℕ) (row : Option ℕ) → Answer × (Rows × ℕ)
  then_stores is_early is_last number row =
      cond is_early (refuses 22 0, (rows, writes))
      (cond is_last (refuses 23 0, (rows, writes))
      (cond (when_some row true (λ i. false)) (refuses 24 0, (rows, writes))
      (gives number, (when_some row rows (λ i. set rows i (packing (numbered number r))), one_more writes))))

  in_order : disorder rows ≡ None
      → stores rows writes r
      ≡ then_stores (is_earlier (newest rows) r) (ltb 4294967295 (number_after (newest rows))) (number_after (newest rows)) (next_row rows)
  unfolding next_number
  in_order ok = rw ok

  refuses_next : (is_early is_last : Bool) (number n place : ℕ) (o : Option Record) (row : Option ℕ) → next_record is_early is_last number ≡ (refused n place, o)
      → then_stores is_early is_last number row ≡ (refuses n place, (rows, writes))
  refuses_next true is_last number n place o row e = let same = ap (λ p. p.0) e in cc
  refuses_next false true number n place o row e = let same = ap (λ p. p.0) e in cc
  refuses_next false false number n place o row e = absurd (not_both n place (ap (λ p. p.0) e))

  -- what an accepted record leaves to ask: the row
  abbrev in_row : Record → (row : Option ℕ) → Answer × (Rows × ℕ)
  in_row q row = when_some row (refuses 24 0, (rows, writes)) (λ i. (gives q.number, (set rows i (packing q), one_more writes)))

  accepts_next : (is_early is_last : Bool) (number : ℕ) (q : Record) (row : Option ℕ) → next_record is_early is_last number ≡ (accepted, Some q)
      → then_stores is_early is_last number row ≡ in_row q row
  accepts_next true is_last number q row e = absurd (not_both 22 0 (sym (ap (λ p. p.0) e)))
  accepts_next false true number q row e = absurd (not_both 23 0 (sym (ap (λ p. p.0) e)))
  accepts_next false false number q row e = at row ∙ ap (λ x. in_row x row) same
    where
      same : numbered number r ≡ q
      same = ap (λ p. when_some p.1 (numbered number r) (λ x. x)) e

      at : (row : Option ℕ) → then_stores false false number row ≡ in_row (numbered number r) row
      at None = refl
      at (Some i) = refl

  -- the record is refused
  pub store_refuses : (n place : ℕ) (o : Option Record) → disorder rows ≡ None → follows (newest rows) r ≡ (refused n place, o)
      → stores rows writes r ≡ (refuses n place, (rows, writes))
  store_refuses n place o ok e =
      let number = number_after (newest rows) in in_order ok ∙ refuses_next (is_earlier (newest rows) r) (ltb 4294967295 number) number n place o (next_row rows) e

  -- it follows, and goes to the next row, if there is one
  pub store_goes_on : (q : Record) (row : Option ℕ) → disorder rows ≡ None → follows (newest rows) r ≡ (accepted, Some q) → next_row rows ≡ row
      → stores rows writes r ≡ in_row q row
  store_goes_on q row ok e next =
      let number = number_after (newest rows) in
      in_order ok ∙ accepts_next (is_earlier (newest rows) r) (ltb 4294967295 number) number q (next_row rows) e ∙ ap (in_row q) next
