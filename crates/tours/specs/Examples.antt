-- The record of the rules' worked case, under another number and of another day
use Rattle.std.specs.Prelude.{ℕ}
use Rattle.rules.specs.Records.{Record}
use Rattle.rules.specs.Cases.{a_record}

abbrev pub example_of : (number day : ℕ) → Record
example_of number day = record a_record { number = number; day = day }
