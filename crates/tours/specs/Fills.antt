-- A memory that is filled: a store a day, until one is refused
use Rattle.std.specs.Prelude.{ℕ, zero, suc, ◌+◌, ◌-◌, Bool, true, false, cond, min}
use Rattle.rules.specs.Memory.{Rows}
use Rattle.rules.specs.Media.{Outcome, accepted, refused}

abbrev pub is_accepted : Outcome → Bool
is_accepted accepted = true
is_accepted (refused number place) = false

-- what a tour's own store does with a day: the outcome, and what rows and count are then
abbrev pub Store : Type 0
Store = Rows → (writes day : ℕ) → Outcome × Rows × ℕ

-- so many days, from this one on, are stored until a store is refused: the first day on which nothing was stored, and what rows and count are then
abbrev pub fills_for : (days : ℕ) → Store → Rows → (writes day : ℕ) → ℕ × (Rows × ℕ)
fills_for zero store rows writes day = (day, (rows, writes))
fills_for (suc days) store rows writes day =
    let after : Outcome × Rows × ℕ = store rows writes day in
    cond (is_accepted after.0) (fills_for days store after.1 after.2 (day + 1)) (day, (after.1, after.2))

-- 100 days at most, and none after day 65,534
abbrev pub fills : Store → Rows → (writes first : ℕ) → ℕ × (Rows × ℕ)
fills store rows writes first = fills_for (min 100 (65535 - first)) store rows writes first
