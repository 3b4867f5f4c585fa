-- Rows written in hex digits
use Rattle.std.specs.Prelude.{ℕ, ◌+◌, ◌-◌, ◌*◌, cond, ◌&&◌, List, [], ◌∷◌, length, ◌==◌, nat_le, Option, None, Some}
use Rattle.rules.specs.Lists.{when_some}

-- the value of a digit, 0 to 9, A to F or a to f
abbrev pub hex_digit : ℕ → Option ℕ
hex_digit c =
    cond (nat_le 48 c && nat_le c 57) (Some (c - 48)) (cond (nat_le 65 c && nat_le c 70) (Some (c - 55)) (cond (nat_le 97 c && nat_le c 102) (Some (c - 87)) None))

-- a byte of two digits
abbrev pub hex_byte : (high low : ℕ) → Option ℕ
hex_byte high low = when_some (hex_digit high) None (λ h. when_some (hex_digit low) None (λ l. Some (16 * h + l)))

-- the bytes that pairs of digits write
unfoldable pub hex_bytes : List ℕ → Option (List ℕ)
hex_bytes [] = Some []
hex_bytes (high ∷ []) = None
hex_bytes (high ∷ (low ∷ cs)) = when_some (hex_byte high low) None (λ b. when_some (hex_bytes cs) None (λ bs. Some (b ∷ bs)))

-- the row that a line of 64 digits writes
abbrev pub row_in : List ℕ → Option (List ℕ)
row_in line = cond (length line == 64) (hex_bytes line) None
