-- What a weighing means in the rules: a record that has no number yet
use Rattle.std.specs.Prelude.{Ok, Err, Result, Option, None, Some}
use Rattle.rules.specs.Records.{Record as TheRecord, numbered}
use Rattle.records.specs.declared.weighing.Weighing.{Weighing}
use Rattle.records.specs.declared.row.Unlawful.{Unlawful}
use Rattle.records.specs.RecordsOf.{record_of}

abbrev pub weighing_of : Weighing → TheRecord
weighing_of w = numbered 0 (record_of w.entries)

-- the weighing, where there is one
abbrev pub weighing_says : Result Weighing Unlawful → Option TheRecord
weighing_says (Ok w) = Some (weighing_of w)
weighing_says (Err e) = None
