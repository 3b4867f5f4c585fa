-- The judge of a row finds a record in an intact row, and in no other
use Rattle.std.proofs.Common.{◌≡◌, ℕ, Bool, true, false, cond, List, [], ◌∷◌, ◌++◌, length, get_or, take, sym, refl, ap, ◌∙◌, Option, None, Some}
use Rattle.std.proofs.lemmas.List.{take_at, get_or_push}
use Rattle.std.proofs.lemmas.Bool.{eq-eqb}
use Rattle.rules.specs.Lists.{when_some, digits_of}
use Rattle.rules.specs.Records.{Record}
use Rattle.rules.specs.Rows.{fields, side_by_side, zeros, packing, read_row, is_blank, Verdict, blank, wrong_check, wrong_fields, intact, is_checked, judged}
use Rattle.rules.specs.Laws.{JudgeFindsIntactRows}
use Rattle.rules.proofs.BlankRows.{is_blank_row}
use Rattle.rules.proofs.Digits.{digits_length}
use Rattle.rules.proofs.RowLaws.{read_is_packed, blank_reads_none}

-- the last byte of a packing is its check
pub packing_checked : (r : Record) → is_checked (packing r) ≡ true
unfolding packing is_checked
packing_checked r =
    let body : List ℕ = digits_of 256 31 (side_by_side 0 (fields r)) in
    let size : length body ≡ 31 = digits_length 256 31 (side_by_side 0 (fields r)) in
    let last : get_or (body ++ (zeros body ∷ [])) 31 0 ≡ zeros body = get_or_push body (zeros body) 0 31 size in
    let front : take 31 (body ++ (zeros body ∷ [])) ≡ body = take_at body (zeros body ∷ []) 31 size in
    eq-eqb _ _ (last ∙ sym (ap zeros front))

-- what the judge says, by the two looks before the fields and what the fields hold
found : (looks_blank looks_checked : Bool) (fields_hold : Option Record) (r : Record)
    → (looks_blank ≡ true → fields_hold ≡ None) → (fields_hold ≡ Some r → looks_checked ≡ true)
    → let said : Verdict = cond looks_blank blank (cond looks_checked (when_some fields_hold wrong_fields intact) wrong_check) in
    (said ≡ intact r → fields_hold ≡ Some r) × (fields_hold ≡ Some r → said ≡ intact r)
found true b f r one two = ((λ e. cc), λ e. cc (one refl))
found false true None r one two = ((λ e. cc), λ e. cc)
found false true (Some q) r one two = ((λ e. cc), λ e. cc)
found false false f r one two = ((λ e. cc), λ e. cc (two e))

pub judge_finds_intact : JudgeFindsIntactRows
unfolding judged
judge_finds_intact row r =
    found (is_blank row) (is_checked row) (read_row row) r
    (λ e. ap read_row (is_blank_row row e) ∙ blank_reads_none)
    (λ e. ap is_checked (read_is_packed row r e).1 ∙ packing_checked r)
