-- A row of the memory: the 32 bytes of a record, read back, or blank
use Rattle.std.specs.Prelude.{ℕ, ◌+◌, ◌-◌, ◌*◌, ◌/◌, ◌%◌, ◌^◌, Bool, cond, ◌&&◌, List, [], ◌∷◌, ◌++◌, take, replicate, ◌==◌, count_ones, slice_index, Option, None, Some}
use Rattle.rules.specs.Lists.{when_some, same, number_of, digits_of}
use Rattle.rules.specs.Records.{Record, lawful}

-- ---- Packing

-- the width in bits and the value of each field, in the order of the row: the kind first, the spare ones last; the check follows
unfoldable pub fields : Record → List (ℕ × ℕ)
fields r =
    (8, 0xa1) ∷ (32, r.number) ∷ (16, r.day) ∷ (11, r.minute) ∷ (3, r.interval) ∷ (14, r.gross) ∷ (2, r.tare_kind) ∷ (14, r.tare)
    ∷ (14, r.net) ∷ (20, r.unit_price) ∷ (29, r.price) ∷ (48, number_of 64 0 r.mark) ∷ (37, 2 ^ 37 - 1) ∷ []

-- the fields laid side by side behind so_far, most significant bit first, as one number
unfoldable pub side_by_side : (so_far : ℕ) → List (ℕ × ℕ) → ℕ
side_by_side so_far [] = so_far
side_by_side so_far (f ∷ fs) = side_by_side (so_far * 2 ^ f.0 + f.1) fs

-- how many bits of these bytes are zero
unfoldable pub zeros : List ℕ → ℕ
zeros [] = 0
zeros (b ∷ bs) = (8 - count_ones b) + zeros bs

-- 31 bytes of fields, and the check: how many of their bits are zero
unfoldable pub packing : Record → List ℕ
packing r = let body : List ℕ = digits_of 256 31 (side_by_side 0 (fields r)) in body ++ (zeros body ∷ [])

-- ---- Reading

-- the field that has so many bits behind it and is so many bits wide, in the number that the 31 bytes write
abbrev pub field : (body behind width : ℕ) → ℕ
field body behind width = (body / 2 ^ behind) % 2 ^ width

-- the record in the fields of a row, be it intact or not
unfoldable pub unpacked : List ℕ → Record
unpacked row =
    let body : ℕ = number_of 256 0 (take 31 row) in
    record {
      number = field body 208 32;
      day = field body 192 16;
      minute = field body 181 11;
      interval = field body 178 3;
      gross = field body 164 14;
      tare_kind = field body 162 2;
      tare = field body 148 14;
      net = field body 134 14;
      unit_price = field body 114 20;
      price = field body 85 29;
      mark = digits_of 64 8 (field body 37 48);
    }

-- the record of an intact row: the lawful record of which it is the packing
unfoldable pub read_row : List ℕ → Option Record
read_row row = let r : Record = unpacked row in cond (lawful r && same (packing r) row) (Some r) None

-- ---- Blank rows

-- all ones
unfoldable pub blank_row : List ℕ
blank_row = replicate 32 255

unfoldable pub is_blank : List ℕ → Bool
is_blank row = same row blank_row

-- ---- The judge of a row

-- what a row turns out to be: blank, a row whose check is wrong, one whose fields are no lawful record's, or an intact row with its record
pub data Verdict : Type 0 where
  blank wrong_check wrong_fields : Verdict
  intact : Record → Verdict

-- whether the last byte is the number of zero bits before it
unfoldable pub is_checked : List ℕ → Bool
is_checked row = slice_index row 31 == zeros (take 31 row)

-- the judge looks first whether the row is all ones, then at the check, then at the fields
unfoldable pub judged : List ℕ → Verdict
judged row = cond (is_blank row) blank (cond (is_checked row) (when_some (read_row row) wrong_fields intact) wrong_check)
