use Rattle.std.proofs.Common.{◌≡◌, ◌-◌, ◌++◌, length, take}
use Rattle.std.specs.Prelude.{reverse}
use Rattle.records.proofs.DigitsOut.{characters}
use Rattle.records.proofs.digits.digits.Given as goal

-- the digits that are still to come, and those that are written
abbrev pub invariant-loop-digit : goal.invariant-loop-digit
invariant-loop-digit g l =
    (characters g.row.BASE g.row.ZERO g.row.N l.value ≡ characters g.row.BASE g.row.ZERO (g.row.N - l.digit-index) l.rest ++ reverse (take l.digit-index l.digit-items))
    × (length l.digit-items ≡ g.row.N)
