use Rattle.std.proofs.Common.{◌≡◌, ◌*◌, ◌^◌, ◌<◌, true, cond, [], ◌∷◌, length, get_or, sym, ap, ◌∙◌, subst, arith, rules, None, Some}
use Rattle.rules.specs.Lists.{number_of}
use Rattle.rules.specs.Records.{lawful}
use Rattle.rules.specs.Rows.{fields, side_by_side, packing}
use Rattle.rules.proofs.Fits.{lawful_fits}
use Rattle.records.specs.FieldsOf.{FitsWidths}
use Rattle.records.specs.RecordsOf.{record_of}
use Rattle.records.proofs.RowsRead.{spread, check_room, packed_row}
use Rattle.records.proofs.record.Record.pack.Goals as goal

pub words-requires : goal.words-requires
words-requires c =
    let ok : lawful (record_of c.args.self) ≡ true = sym c.is_lawful.ensures ∙ c.if-not-is_lawful.false in
    subst FitsWidths (sym c.of.ensures) (lawful_fits (record_of c.args.self) ok)

pub overflow_add-d : goal.overflow_add-d
overflow_add-d c =
    let ws = c.words.result in
    let size : length ws ≡ 4 = search rules in
    let small : get_or ws 3 0 < 2 ^ 64 = search rules in
    omega (arith, check_room (get_or ws 0 0) (get_or ws 1 0) (get_or ws 2 0) (get_or ws 3 0) _ c.zero_bits-check.result (ap (number_of (2 ^ 64) 0) (sym (spread ws size)) ∙ c.words.ensures) small (omega (arith, c.zero_bits-check.ensures)))

pub returns : goal.returns
returns c =
    let ws = c.words.result in
    let r = record_of c.args.self in
    let size : length ws ≡ 4 = search rules in
    let ok : lawful r ≡ true = sym c.is_lawful.ensures ∙ c.if-not-is_lawful.false in
    let body : number_of (2 ^ 64) 0 (get_or ws 0 0 ∷ get_or ws 1 0 ∷ get_or ws 2 0 ∷ get_or ws 3 0 ∷ []) ≡ side_by_side 0 (fields r) * 256 =
    ap (number_of (2 ^ 64) 0) (sym (spread ws size)) ∙ c.words.ensures ∙ ap (λ fs. side_by_side 0 fs * 256) c.of.ensures in
    let row : c.row_of.result ≡ packing r =
    c.row_of.ensures ∙ packed_row r ok (get_or ws 0 0) (get_or ws 1 0) (get_or ws 2 0) (get_or ws 3 0) c.zero_bits-check.result body c.zero_bits-check.ensures in
    ap Some row ∙ sym (ap (λ b. cond b (Some (packing r)) None) ok)
