-- The fields of a row as plain numbers: the list that the rules lay side by side, and the record in them
use Rattle.std.specs.Prelude.{◌≡◌, ℕ, ◌-◌, ◌^◌, ◌<◌, Bool, true, false, ◌&&◌, List, [], ◌∷◌, Some, None, Option, ◌==◌}
use Rattle.rules.specs.Lists.{AllOf, digits_of}
use Rattle.rules.specs.Records.{Record as TheRecord, lawful_tare, lawful}
use Rattle.records.specs.declared.fields.Fields.{Fields}
use Rattle.records.specs.declared.record.Tare.{Tare}
use Rattle.records.specs.RecordsOf.{tare_kind_of, tare_value_of}

-- the width in bits and the value of each field, in the order of the row
abbrev pub field_list : Fields → List (ℕ × ℕ)
field_list f =
    (8, f.kind) ∷ (32, f.number) ∷ (16, f.day) ∷ (11, f.minute) ∷ (3, f.interval) ∷ (14, f.gross) ∷ (2, f.tare_kind) ∷ (14, f.tare)
    ∷ (14, f.net) ∷ (20, f.unit_price) ∷ (29, f.price) ∷ (48, f.mark) ∷ (37, f.spare) ∷ []

-- each value has room in its width
abbrev pub FitsWidths : List (ℕ × ℕ) → Type 0
FitsWidths fs = AllOf (λ f. f.1 < 2 ^ f.0) fs

-- the record in the fields, be it lawful or not
abbrev pub record_in : Fields → TheRecord
record_in f = record {
  number = f.number;
  day = f.day;
  minute = f.minute;
  interval = f.interval;
  gross = f.gross;
  tare_kind = f.tare_kind;
  tare = f.tare;
  net = f.net;
  unit_price = f.unit_price;
  price = f.price;
  mark = digits_of 64 8 f.mark;
}

-- whether they are the fields of a lawful record: the kind is right, the spare bits are ones
abbrev pub is_record : Fields → Bool
is_record f = f.kind == 0xa1 && (f.spare == 2 ^ 37 - 1 && lawful (record_in f))

-- the tare of a kind and a value; where there is none, they are not lawful
abbrev pub TareSays : (kind value : ℕ) → Option Tare → Type 0
TareSays kind value None = lawful_tare kind value ≡ false
TareSays kind value (Some t) = (lawful_tare kind value ≡ true) × (tare_kind_of t ≡ kind) × (tare_value_of t ≡ value)
