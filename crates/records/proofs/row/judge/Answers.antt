use Rattle.std.proofs.Common.{◌≡◌, ℕ, ◌/◌, ◌^◌, ◌<◌, true, false, cond, List, length, get_or, sym, ap, ◌∙◌, Option, None, Some}
use Rattle.rules.specs.Lists.{when_some, number_of, digits_of}
use Rattle.rules.specs.Records.{Record as TheRecord}
use Rattle.rules.specs.Rows.{side_by_side, read_row, is_blank, blank, wrong_check, wrong_fields, intact, is_checked, judged}
use Rattle.std.specs.Option.{MatchOption, option_map}
use Rattle.records.specs.declared.fields.Fields.{Fields as TheFields}
use Rattle.records.specs.declared.record.Record.{Record}
use Rattle.records.specs.declared.row.Verdict.{Verdict}
use Rattle.records.specs.declared.row.Verdict.TheVariants.{Damaged, Intact}
use Rattle.records.specs.declared.row.Damage.TheVariants.{Fields}
use Rattle.records.specs.Verdicts.{verdict_of}
use Rattle.records.specs.FieldsOf.{field_list, FitsWidths, is_record, record_in}
use Rattle.records.specs.RecordsOf.{record_of}
use Rattle.records.proofs.RowsRead.{read_by_fields}
use Rattle.records.proofs.Looks.{bytes, number_is, looks_blank, looks_checked}
use Rattle.records.proofs.row.judge.Goals as goal

-- ---- The judge, by what each look shows

judged_blank : (row : List ℕ) → is_blank row ≡ true → judged row ≡ blank
unfolding judged
judged_blank row e = rw e

judged_check : (row : List ℕ) → is_blank row ≡ false → is_checked row ≡ false → judged row ≡ wrong_check
unfolding judged
judged_check row e f = rw (e, f)

judged_fields : (row : List ℕ) → is_blank row ≡ false → is_checked row ≡ true → judged row ≡ when_some (read_row row) wrong_fields intact
unfolding judged
judged_fields row e f = rw (e, f)

-- what the fields say
module _ (row words : List ℕ) (size : length row ≡ 32) (fits : (i : ℕ) → get_or row i 0 < 256) (words_are : words ≡ digits_of (2 ^ 64) 4 (number_of 256 0 row)) where
  fields_say :
      (f : TheFields) → side_by_side 0 (field_list f) ≡ number_of (2 ^ 64) 0 words / 256 → FitsWidths (field_list f) → (said : Option TheRecord)
      → said ≡ cond (is_record f) (Some (record_in f)) None → is_blank row ≡ false → is_checked row ≡ true → when_some said wrong_fields intact ≡ judged row
  fields_say f body fit said e not_blank checked =
      sym (judged_fields row not_blank checked
      ∙ ap (λ o. when_some o wrong_fields intact) (read_by_fields row size (bytes row words size fits words_are) f (body ∙ ap (λ n. n / 256) (number_is row words size fits words_are)) fit checked ∙ sym e))

-- what is made of the record, if one was read
said : (o : Option Record) (v : Verdict) → MatchOption o (v ≡ Damaged Fields) (λ x. v ≡ Intact x) → verdict_of v ≡ when_some (option_map record_of o) wrong_fields intact
said None v h = ap verdict_of h
said (Some x) v h = ap verdict_of h

pub returns-then-are_ones : goal.returns-then-are_ones
returns-then-are_ones c =
    let row = c.args.row.now in
    sym (judged_blank row (looks_blank row c.words_of-words.result c.told-row c.fits-row c.words_of-words.ensures c.are_ones.result true c.are_ones.ensures c.if-are_ones.true))

pub returns-then-not-is_checked : goal.returns-then-not-is_checked
returns-then-not-is_checked c =
    let row = c.args.row.now in
    sym (judged_check row
    (looks_blank row c.words_of-words.result c.told-row c.fits-row c.words_of-words.ensures c.are_ones.result false c.are_ones.ensures c.if-are_ones.false)
    (looks_checked row c.words_of-words.result c.told-row c.fits-row c.words_of-words.ensures c.is_checked.result false c.is_checked.ensures c.if-not-is_checked.true))

pub returns : goal.returns
returns c =
    let row = c.args.row.now in
    said c.record.result c.map_or.result c.map_or.ensures
    ∙ fields_say row c.words_of-words.result c.told-row c.fits-row c.words_of-words.ensures c.read.result c.read.ensures.body c.read.ensures.fit
    (option_map record_of c.record.result) c.record.ensures
    (looks_blank row c.words_of-words.result c.told-row c.fits-row c.words_of-words.ensures c.are_ones.result false c.are_ones.ensures c.if-are_ones.false)
    (looks_checked row c.words_of-words.result c.told-row c.fits-row c.words_of-words.ensures c.is_checked.result true c.is_checked.ensures c.if-not-is_checked.false)
