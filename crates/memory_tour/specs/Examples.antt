-- The example of a day, appended under the next number
use Rattle.std.specs.Prelude.{ℕ, cond, nat_lt, Option}
use Rattle.rules.specs.Rows.{packing}
use Rattle.rules.specs.Memory.{Rows, next_number}
use Rattle.rules.specs.Media.{Outcome, refused}
use Rattle.memory.specs.Faults.{appends}
use Rattle.tours.specs.Examples.{example_of}

-- refused where the next number has more than 32 bits, and else what the append does; its row is not told
abbrev pub appends_example : Rows → (writes day : ℕ) → Outcome × Rows × ℕ
appends_example rows writes day =
    cond (nat_lt 4294967295 (next_number rows)) (refused 23 0, rows, writes)
    (let after : Outcome × Option ℕ × Rows × ℕ = appends rows writes (packing (example_of (next_number rows) day)) in (after.0, after.2, after.3))
