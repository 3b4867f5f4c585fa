-- Records with their rows
use Rattle.std.specs.Prelude.{ℕ, Bool, false, cond, List, length, nat_lt, Option, None, Some}
use Rattle.rules.specs.Lists.{when_some}
use Rattle.rules.specs.Records.{Record}
use Rattle.rules.specs.Rows.{unpacked, read_row}
use Rattle.rules.specs.Memory.{Rows, row_at}
use Rattle.records.specs.RecordsOf.{record_of}
use Rattle.memory.specs.declared.entry.Entry.{Entry}

abbrev pub entry_of : Entry → ℕ × Record
entry_of e = (e.row, record_of e.weighing)

-- a row, if there is such a row
abbrev pub row_in : Rows → ℕ → Option (List ℕ)
row_in rows i = cond (nat_lt i (length rows)) (Some (row_at rows i)) None

-- the record in the bytes of a row, with the row
abbrev pub entry_read : (i : ℕ) → List ℕ → Option (ℕ × Record)
entry_read i row = when_some (read_row row) None (λ r. Some (i, r))

-- the record in a row, with the row
abbrev pub entry_in : Rows → ℕ → Option (ℕ × Record)
entry_in rows i = entry_read i (row_at rows i)

-- the one with the larger number, the first of equals
abbrev pub better_of : Option (ℕ × Record) → Option (ℕ × Record) → Option (ℕ × Record)
better_of None y = y
better_of (Some x) None = Some x
better_of (Some x) (Some y) = cond (nat_lt x.1.number y.1.number) (Some y) (Some x)

-- whether the number in the fields of a row, be it intact or not, is smaller than that of the best so far
abbrev pub is_older : List ℕ → (best : Option (ℕ × Record)) → Bool
is_older row best = when_some best false (λ b. nat_lt (unpacked row).number b.1.number)
