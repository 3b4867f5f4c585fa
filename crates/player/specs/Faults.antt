-- The faults of a line by number and place; each keeps those that it has
use Rattle.std.specs.Prelude.{ℕ}
use Rattle.indicator.specs.FaultsOf.{fault_number as indicator_number, fault_place as indicator_place}
use Rattle.terminal.specs.FaultsOf.{fault_number as store_number, fault_place as store_place}
use Rattle.player.specs.declared.fault.LineFault.{LineFault}
use Rattle.player.specs.declared.fault.LineFault.TheVariants.{Trace, Indicator, Store}

-- the number of a line's fault
abbrev pub fault_number : LineFault → ℕ
fault_number (Trace f) = 32
fault_number (Indicator f) = indicator_number f
fault_number (Store f) = store_number f

-- the place that it is about, or 0
abbrev pub fault_place : LineFault → ℕ
fault_place (Trace f) = f.line
fault_place (Indicator f) = indicator_place f
fault_place (Store f) = store_place f
