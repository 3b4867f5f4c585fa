-- What marks and records mean in the rules
use Rattle.std.specs.Prelude.{ℕ, List, Ok, Err, Result, Option, None, Some}
use Rattle.records.specs.declared.mark.Mark.{Mark}
use Rattle.records.specs.declared.mark.NoMark.{NoMark}

-- the eight codes of a mark
abbrev pub codes_of : Mark → List ℕ
codes_of m = m.codes

-- the codes, where there is a mark
abbrev pub mark_says : Result Mark NoMark → Option (List ℕ)
mark_says (Ok m) = Some (codes_of m)
mark_says (Err e) = None
