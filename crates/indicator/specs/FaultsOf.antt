-- The faults of the cell and of the indicator by number and place
use Rattle.std.specs.Prelude.{ℕ}
use Rattle.indicator.specs.declared.fault.CellFault.{CellFault}
use Rattle.indicator.specs.declared.fault.CellFault.TheVariants.{OutOfRange}
use Rattle.indicator.specs.declared.fault.IndicatorFault.{IndicatorFault}
use Rattle.indicator.specs.declared.fault.IndicatorFault.TheVariants.{Cell, Pending, Tared, Unsettled, ZeroRange, TareRange, Minute, Mark, UnitPrice, Waiting, UnderMin, OverMax, NoNet}

abbrev pub cell_number : CellFault → ℕ
cell_number OutOfRange = 7

abbrev pub fault_number : IndicatorFault → ℕ
fault_number (Cell f) = cell_number f
fault_number Pending = 8
fault_number Tared = 9
fault_number Unsettled = 10
fault_number ZeroRange = 11
fault_number TareRange = 12
fault_number Minute = 13
fault_number Mark = 14
fault_number UnitPrice = 15
fault_number Waiting = 16
fault_number UnderMin = 17
fault_number OverMax = 18
fault_number NoNet = 19

-- no rule names a place for them
abbrev pub fault_place : IndicatorFault → ℕ
fault_place f = 0
