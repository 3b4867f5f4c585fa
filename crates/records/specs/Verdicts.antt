-- What the judge of a row and the packing of a record say, in the rules' words
use Rattle.std.specs.Prelude.{ℕ, List, Ok, Err, Result, Option, None, Some}
use Rattle.rules.specs.Rows.{Verdict as TheVerdict, blank, wrong_check, wrong_fields, intact}
use Rattle.records.specs.declared.row.Verdict.{Verdict}
use Rattle.records.specs.declared.row.Verdict.TheVariants.{Blank, Damaged, Intact}
use Rattle.records.specs.declared.row.Damage.TheVariants.{Check, Fields}
use Rattle.records.specs.declared.row.Unlawful.{Unlawful}
use Rattle.records.specs.RecordsOf.{record_of}

abbrev pub verdict_of : Verdict → TheVerdict
verdict_of Blank = blank
verdict_of (Damaged Check) = wrong_check
verdict_of (Damaged Fields) = wrong_fields
verdict_of (Intact r) = intact (record_of r)

-- the row, where the record has one
abbrev pub packed_says : Result (List ℕ) Unlawful → Option (List ℕ)
packed_says (Ok row) = Some row
packed_says (Err e) = None
