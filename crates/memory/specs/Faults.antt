-- The faults of a memory by number and place, and what its calls say
use Rattle.std.specs.Prelude.{ℕ, List, Ok, Err, Result, slice_set, Option, None, Some, option_map}
use Rattle.rules.specs.Lists.{when_some}
use Rattle.rules.specs.Records.{Record as TheRecord}
use Rattle.rules.specs.Memory.{Rows, newest, find, disorder, next_row}
use Rattle.rules.specs.Media.{Outcome, accepted, refused, one_more}
use Rattle.records.specs.declared.record.Record.{Record}
use Rattle.records.specs.RecordsOf.{record_of}
use Rattle.media.specs.Outcomes.{fault_number as medium_number, fault_place as medium_place}
use Rattle.memory.specs.Entries.{entry_of}
use Rattle.memory.specs.declared.entry.Entry.{Entry}
use Rattle.memory.specs.declared.fault.MemoryFault.{MemoryFault}
use Rattle.memory.specs.declared.fault.MemoryFault.TheVariants.{Disorder, Earlier, NoNumber, Full, Unknown, Medium}

abbrev pub fault_number : MemoryFault → ℕ
fault_number (Disorder row) = 21
fault_number Earlier = 22
fault_number NoNumber = 23
fault_number Full = 24
fault_number Unknown = 26
fault_number (Medium fault) = medium_number fault

-- the row that breaks the order, or the place in a fault of the medium
abbrev pub fault_place : MemoryFault → ℕ
fault_place (Disorder row) = row
fault_place Earlier = 0
fault_place NoNumber = 0
fault_place Full = 0
fault_place Unknown = 0
fault_place (Medium fault) = medium_place fault

abbrev pub outcome : {A : Type 0} → Result A MemoryFault → Outcome
outcome (Ok _) = accepted
outcome (Err e) = refused (fault_number e) (fault_place e)

-- ---- By the rules

-- a memory in order is accepted
abbrev pub orders : Rows → Outcome
orders rows = when_some (disorder rows) accepted (refused 21)

-- and with it its newest record
abbrev pub checks : Rows → Outcome × Option (ℕ × TheRecord)
checks rows = when_some (disorder rows) (accepted, newest rows) (λ i. (refused 21 i, None))

abbrev pub newest_told : Result (Option Entry) MemoryFault → Option (ℕ × TheRecord)
newest_told (Ok entry) = option_map entry_of entry
newest_told (Err e) = None

-- the record of a number
abbrev pub finds : Rows → (number : ℕ) → Outcome × Option TheRecord
finds rows number = when_some (find rows number) (refused 26 0, None) (λ r. (accepted, Some r))

-- the record of a number, in a memory in order
abbrev pub looks_up : Rows → (number : ℕ) → Outcome × Option TheRecord
looks_up rows number = when_some (disorder rows) (finds rows number) (λ i. (refused 21 i, None))

abbrev pub found : Result Record MemoryFault → Option TheRecord
found (Ok r) = Some (record_of r)
found (Err e) = None

-- a packed record goes to the next row: the outcome, that row, and what rows and count are then
abbrev pub appends : Rows → (writes : ℕ) (packed : List ℕ) → Outcome × Option ℕ × Rows × ℕ
appends rows writes packed = when_some (next_row rows) (refused 24 0, None, rows, writes) (λ i. (accepted, Some i, slice_set rows i packed, one_more writes))

abbrev pub row_told : Result ℕ MemoryFault → Option ℕ
row_told (Ok row) = Some row
row_told (Err e) = None
