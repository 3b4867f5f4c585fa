-- What a record of this crate means in the rules
use Rattle.std.specs.Prelude.{ℕ, Bool, ◌&&◌, nat_le}
use Rattle.rules.specs.Records.{Record as TheRecord, unnumbered, numbered}
use Rattle.rules.specs.Terminal.{Tare as TheTare, no_tare, weighed, preset, tare_kind, tare_value}
use Rattle.loads.specs.IntervalsOf.{interval_code}
use Rattle.records.specs.declared.record.Tare.{Tare}
use Rattle.records.specs.declared.record.Tare.TheVariants.{None, Weighed, Preset}
use Rattle.records.specs.declared.record.Record.{Record}

-- a tare in intervals
abbrev pub tare_of : Tare → TheTare
tare_of None = no_tare
tare_of (Weighed w) = weighed w.0
tare_of (Preset w) = preset w.0

-- the kind and the value that a row has for a tare
abbrev pub tare_kind_of : Tare → ℕ
tare_kind_of t = tare_kind (tare_of t)

abbrev pub tare_value_of : Tare → ℕ
tare_value_of t = tare_value (tare_of t)

-- the numbers of a record lie within their bounds
abbrev pub bounded : (number minute gross tare net unit_price : ℕ) → Bool
bounded number minute gross tare net unit_price =
    nat_le 1 number && (nat_le minute 1439 && (nat_le unit_price 1000000 && (nat_le gross 10009 && (nat_le tare 10000 && nat_le 1 net))))

-- net weight and price follow from the rest
abbrev pub record_of : Record → TheRecord
record_of r =
    numbered r.number
    (unnumbered (interval_code r.interval) r.gross.0 (tare_kind_of r.tare) (tare_value_of r.tare) r.day r.minute r.unit_price r.mark.codes)
