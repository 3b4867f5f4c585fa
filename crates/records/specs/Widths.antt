-- The fields of a row and their widths in bits
use Rattle.std.specs.Prelude.{ℕ}
use Rattle.records.specs.declared.bits.Field.{Field}
use Rattle.records.specs.declared.bits.Field.TheVariants.{Kind, Number, Day, Minute, Interval, Gross, TareKind, Tare, Net, UnitPrice, Price, Mark, Spare, Check}

abbrev pub width_of : Field → ℕ
width_of Kind = 8
width_of Number = 32
width_of Day = 16
width_of Minute = 11
width_of Interval = 3
width_of Gross = 14
width_of TareKind = 2
width_of Tare = 14
width_of Net = 14
width_of UnitPrice = 20
width_of Price = 29
width_of Mark = 48
width_of Spare = 37
width_of Check = 8
