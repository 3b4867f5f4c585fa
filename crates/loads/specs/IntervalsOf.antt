-- An interval by its code
use Rattle.std.specs.Prelude.{ℕ}
use Rattle.loads.specs.declared.interval.Interval.{Interval}
use Rattle.loads.specs.declared.interval.Interval.TheVariants.{One, Two, Five, Ten, Twenty, Fifty}

abbrev pub interval_code : Interval → ℕ
interval_code One = 0
interval_code Two = 1
interval_code Five = 2
interval_code Ten = 3
interval_code Twenty = 4
interval_code Fifty = 5
