-- The faults of the store by number and place; those of the memory keep theirs
use Rattle.std.specs.Prelude.{ℕ}
use Rattle.memory.specs.Faults.{fault_number as memory_number, fault_place as memory_place}
use Rattle.terminal.specs.declared.fault.StoreFault.{StoreFault}
use Rattle.terminal.specs.declared.fault.StoreFault.TheVariants.{NothingPending, Memory, ShortBuffer, NoLine, Differs, KeepingTime, TodayTooEarly, TooYoung}

abbrev pub fault_number : StoreFault → ℕ
fault_number NothingPending = 20
fault_number (Memory f) = memory_number f
fault_number ShortBuffer = 25
fault_number NoLine = 27
fault_number (Differs place) = 28
fault_number KeepingTime = 29
fault_number TodayTooEarly = 30
fault_number TooYoung = 31

abbrev pub fault_place : StoreFault → ℕ
fault_place NothingPending = 0
fault_place (Memory f) = memory_place f
fault_place ShortBuffer = 0
fault_place NoLine = 0
fault_place (Differs place) = place
fault_place KeepingTime = 0
fault_place TodayTooEarly = 0
fault_place TooYoung = 0
