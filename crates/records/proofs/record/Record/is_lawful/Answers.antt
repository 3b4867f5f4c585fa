use Rattle.std.proofs.Common.{◌≡◌, ◌-◌, ◌^◌, ◌<◌, ◌&&◌, sym, ap, ◌∙◌, rules}
use Rattle.rules.specs.Records.{lawful, lawful_tare}
use Rattle.loads.specs.IntervalsOf.{interval_code}
use Rattle.records.specs.declared.record.Record.{Record}
use Rattle.records.specs.RecordsOf.{tare_kind_of, tare_value_of, bounded, record_of}
use Rattle.records.proofs.Lawful.{code_at_most, lawful_by}
use Rattle.records.proofs.record.Record.is_lawful.Goals as goal

-- what is left to look at, of a record whose fields fit their types
by : (r : Record) → r.number < 2 ^ 32 → r.day < 2 ^ 16
    → lawful (record_of r)
    ≡ (bounded r.number r.minute r.gross.0 (tare_value_of r.tare) (r.gross.0 - tare_value_of r.tare) r.unit_price
    && lawful_tare (tare_kind_of r.tare) (tare_value_of r.tare))
by r number day =
    lawful_by r.number (interval_code r.interval) r.gross.0 (tare_kind_of r.tare) (tare_value_of r.tare) r.day r.minute r.unit_price r.mark.codes
    number day (code_at_most r.interval) r.mark.known

pub returns-then-is_bounded : goal.returns-then-is_bounded
returns-then-is_bounded c =
    let r = c.args.self in
    c.is_lawful.ensures ∙ sym (by r (search rules) (search rules) ∙ ap (λ b. b && lawful_tare (tare_kind_of r.tare) (tare_value_of r.tare)) (sym c.is_bounded.ensures ∙ c.if-is_bounded.true))

pub returns-else-is_bounded : goal.returns-else-is_bounded
returns-else-is_bounded c =
    let r = c.args.self in
    c.if-is_bounded.false ∙ sym (by r (search rules) (search rules) ∙ ap (λ b. b && lawful_tare (tare_kind_of r.tare) (tare_value_of r.tare)) (sym c.is_bounded.ensures ∙ c.if-is_bounded.false))
