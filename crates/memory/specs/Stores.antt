-- A store: the record that comes after the newest one, and what a store answers and leaves
use Rattle.std.specs.Prelude.{ℕ, ◌+◌, Bool, false, cond, Ok, Err, Result, nat_lt, slice_set, Option, None, Some}
use Rattle.rules.specs.Lists.{when_some}
use Rattle.rules.specs.Records.{Record, numbered, earlier}
use Rattle.rules.specs.Rows.{packing}
use Rattle.rules.specs.Memory.{Rows, next_number}
use Rattle.rules.specs.Media.{Outcome, accepted, refused, one_more}
use Rattle.rules.specs.Terminal.{Answer, gives, refuses, unless, store_refusals, with_record}
use Rattle.memory.specs.declared.fault.MemoryFault.{MemoryFault}
use Rattle.memory.specs.Faults.{fault_number, fault_place}

-- the stamp is earlier than the newest record's
abbrev pub is_earlier : (newest : Option (ℕ × Record)) → Record → Bool
is_earlier newest r = when_some newest false (λ n. earlier r n.1)

-- one more than the newest number, 1 where there is none
abbrev pub number_after : (newest : Option (ℕ × Record)) → ℕ
number_after newest = when_some newest 1 (λ n. n.1.number + 1)

-- such a number, if there is one of 32 bits
abbrev pub number_left : (newest : Option (ℕ × Record)) → Option ℕ
number_left newest = cond (nat_lt 4294967295 (number_after newest)) None (Some (number_after newest))

-- the record under the number after the newest record's; refused where its stamp is earlier, or where no number is left
abbrev pub follows : (newest : Option (ℕ × Record)) → Record → Outcome × Option Record
follows newest r =
    cond (is_earlier newest r) (refused 22 0, None) (when_some (number_left newest) (refused 23 0, None) (λ n. (accepted, Some (numbered n r))))

-- a record is programmed into a row
abbrev pub writes_record : Rows → (writes row : ℕ) → Record → Outcome × Rows × ℕ
writes_record rows writes row r = (accepted, slice_set rows row (packing r), one_more writes)

-- a store: its answer, and what rows and count are then
abbrev pub stores : Rows → (writes : ℕ) → Record → Answer × (Rows × ℕ)
stores rows writes r = unless (store_refusals rows r) (rows, writes) (gives (next_number rows), (with_record rows r, one_more writes))

abbrev pub store_told : Result ℕ MemoryFault → Answer
store_told (Ok number) = gives number
store_told (Err e) = refuses (fault_number e) (fault_place e)
