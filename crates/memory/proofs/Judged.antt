-- What a read row holds
use Rattle.std.proofs.Common.{◌≡◌, ℕ, Bool, true, false, cond, ltb, List, [], length, MatchOption, ◌⊎◌, inl, inr, sym, refl, ap, ◌∙◌, arith, Option, None, Some}
use Rattle.std.proofs.lemmas.List.{get_or_past}
use Rattle.std.proofs.lemmas.Bool.{ltb-false}
use Rattle.rules.specs.Lists.{when_some}
use Rattle.rules.specs.Records.{Record}
use Rattle.rules.specs.Rows.{read_row, blank_row, is_blank, is_checked, Verdict, blank, wrong_check, wrong_fields, intact, judged}
use Rattle.rules.specs.Memory.{Rows, row_at}
use Rattle.rules.specs.Media.{accepted, refused}
use Rattle.memory.specs.Entries.{row_in, entry_in}
use Rattle.records.specs.Verdicts.{verdict_of}
use Rattle.records.specs.declared.row.Verdict.{Verdict as CodeVerdict}
use Rattle.records.specs.declared.row.Verdict.TheVariants.{Blank, Damaged}
use Rattle.records.specs.declared.row.Damage.{Damage}
use Rattle.records.specs.declared.row.Damage.TheVariants.{Check, Fields}
use Rattle.rules.proofs.BlankRows.{is_blank_row}
use Rattle.rules.proofs.RowLaws.{read_is_packed, blank_reads_none, nothing_reads_none}
use Rattle.rules.proofs.Judging.{packing_checked}

-- the record that the judge found
abbrev pub found_in : Verdict → Option Record
found_in blank = None
found_in wrong_check = None
found_in wrong_fields = None
found_in (intact r) = Some r

by_looks : (looks_blank looks_checked : Bool) (fields_hold : Option Record)
    → (looks_blank ≡ true → fields_hold ≡ None) → ((r : Record) → fields_hold ≡ Some r → looks_checked ≡ true)
    → found_in (cond looks_blank blank (cond looks_checked (when_some fields_hold wrong_fields intact) wrong_check)) ≡ fields_hold
by_looks true k f one two = sym (one refl)
by_looks false true None one two = refl
by_looks false true (Some r) one two = refl
by_looks false false None one two = refl
by_looks false false (Some r) one two = cc (two r refl)

pub judged_tells : (row : List ℕ) → found_in (judged row) ≡ read_row row
unfolding judged
judged_tells row =
    by_looks (is_blank row) (is_checked row) (read_row row) (λ e. ap read_row (is_blank_row row e) ∙ blank_reads_none) (λ r e. ap is_checked (read_is_packed row r e).1 ∙ packing_checked r)

-- ---- Reads that are refused

pub not_both : (number place : ℕ) → accepted ≡ refused number place → ⊥
not_both number place z = let y : ◌≡◌ {A = ℕ} 0 1 = cc in omega arith

-- a row that a memory does not have holds no record, and is not blank
module _ (rows : Rows) (i : ℕ) where
  past : {A : Type 0} (f : List ℕ → A) → None ≡ row_in rows i → f (row_at rows i) ≡ f []
  past f e = at (ltb i (length rows)) refl e
    where
      at : (b : Bool) → ltb i (length rows) ≡ b → None ≡ cond b (Some (row_at rows i)) None → f (row_at rows i) ≡ f []
      at true is e = cc
      at false is e = ap f (get_or_past rows i [] (ltb-false i (length rows) is))

  pub no_row_no_entry : None ≡ row_in rows i → None ≡ entry_in rows i
  no_row_no_entry e = sym (ap (λ o. when_some o None (λ r. Some (i, r))) (past read_row e ∙ nothing_reads_none))

  row_there : (row : List ℕ) → Some row ≡ row_in rows i → row ≡ row_at rows i
  row_there row e = at (ltb i (length rows)) e
    where
      at : (b : Bool) → Some row ≡ cond b (Some (row_at rows i)) None → row ≡ row_at rows i
      at true e = cc
      at false e = cc

  pub blank_told : (o : Option (List ℕ)) (b : Bool) → o ≡ row_in rows i → MatchOption o (b ≡ false) (λ row. b ≡ is_blank row) → b ≡ is_blank (row_at rows i)
  unfolding is_blank blank_row
  blank_told None b e h = h ∙ sym (past is_blank e)
  blank_told (Some row) b e h = h ∙ ap is_blank (row_there row e)

-- only an intact row holds a record
pub not_intact : (v : CodeVerdict) → (v ≡ Blank) ⊎ ((damage : Damage) × (v ≡ Damaged damage)) → None ≡ found_in (verdict_of v)
not_intact v (inl e) = ap (λ v. found_in (verdict_of v)) (sym e)
not_intact v (inr (damage, e)) = by damage ∙ ap (λ v. found_in (verdict_of v)) (sym e)
  where
    by : (damage : Damage) → None ≡ found_in (verdict_of (Damaged damage))
    by Check = refl
    by Fields = refl
