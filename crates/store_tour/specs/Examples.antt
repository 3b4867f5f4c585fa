-- The example of a day, stored
use Rattle.std.specs.Prelude.{ℕ}
use Rattle.rules.specs.Memory.{Rows}
use Rattle.rules.specs.Media.{Outcome, accepted, refused}
use Rattle.rules.specs.Terminal.{Answer, refuses}
use Rattle.memory.specs.Stores.{stores}
use Rattle.tours.specs.Examples.{example_of}

-- an answer without the number that it gives
abbrev pub outcome_of : Answer → Outcome
outcome_of (refuses number place) = refused number place
outcome_of a = accepted

-- what a store of a weighing does; a weighing has the number 0
abbrev pub stores_example : Rows → (writes day : ℕ) → Outcome × Rows × ℕ
stores_example rows writes day =
    let after : Answer × (Rows × ℕ) = stores rows writes (example_of 0 day) in (outcome_of after.0, after.1.0, after.1.1)
