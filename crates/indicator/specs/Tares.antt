-- The least that a tare can be, once it is set
use Rattle.std.specs.Prelude.{ℕ}
use Rattle.records.specs.declared.record.Tare.{Tare}
use Rattle.records.specs.declared.record.Tare.TheVariants.{None, Weighed, Preset}

abbrev pub least_tare : Tare → ℕ
least_tare None = 0
least_tare (Weighed w) = 1
least_tare (Preset w) = 1
