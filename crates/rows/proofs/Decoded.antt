-- What the library decodes is what the pairs of digits write
use Rattle.std.proofs.Common.{◌≡◌, ℕ, ◌+◌, ◌*◌, ◌/◌, ◌%◌, Bool, true, false, cond, eqb, List, [], ◌∷◌, length, refl, ap, ◌∙◌, Ok, Err, Result, arith, None, Some}
use Rattle.std.specs.Prelude.{if◌then◌else◌}
use Rattle.std.specs.Result.{result_ok}
use Rattle.std.proofs.lemmas.Bool.{eqb-true, eqb-false}
use Rattle.std.proofs.lemmas.Bool.Decides.{nat_tests}
use Rattle.hex.specs.Hex.{value_at, pair_value, decode_pairs, decode_sized, ◌>>=◌}
use Rattle.hex.specs.declared.error.FromHexError.{FromHexError}
use Rattle.hex.specs.declared.error.FromHexError.TheVariants.{OddLength, InvalidStringLength}
use Rattle.rules.specs.Lists.{when_some}
use Rattle.rows.specs.Hex.{hex_digit, hex_byte, hex_bytes, row_in}

digit_told : (c i : ℕ) → (result_ok (value_at c i)) ≡ hex_digit c
digit_told c i = grind (arith, nat_tests)

byte_of : (r s : Result ℕ FromHexError)
    → (result_ok (r >>= (λ h. s >>= (λ l. Ok (h * 16 + l)))))
    ≡ when_some ((result_ok r)) None (λ h. when_some ((result_ok s)) None (λ l. Some (16 * h + l)))
byte_of (Ok h) (Ok l) = ap Some (omega arith)
byte_of (Ok h) (Err e) = refl
byte_of (Err e) s = refl

byte_told : (high low i : ℕ) → (result_ok (pair_value high low i)) ≡ hex_byte high low
byte_told high low i =
    byte_of (value_at high i) (value_at low (i + 1))
    ∙ ap (λ o. when_some o None (λ h. when_some ((result_ok (value_at low (i + 1)))) None (λ l. Some (16 * h + l)))) (digit_told high i)
    ∙ ap (λ o. when_some (hex_digit high) None (λ h. when_some o None (λ l. Some (16 * h + l)))) (digit_told low (i + 1))

bytes_of : (r : Result ℕ FromHexError) (s : Result (List ℕ) FromHexError)
    → (result_ok (r >>= (λ b. s >>= (λ bs. Ok (b ∷ bs)))))
    ≡ when_some ((result_ok r)) None (λ b. when_some ((result_ok s)) None (λ bs. Some (b ∷ bs)))
bytes_of (Ok b) (Ok bs) = refl
bytes_of (Ok b) (Err e) = refl
bytes_of (Err e) s = refl

bytes_told : (i : ℕ) (text : List ℕ) → (result_ok (decode_pairs i text)) ≡ hex_bytes text
unfolding decode_pairs hex_bytes
bytes_told i [] = refl
bytes_told i (digit ∷ []) = refl
bytes_told i (high ∷ low ∷ rest) =
    bytes_of (pair_value high low i) (decode_pairs (i + 2) rest)
    ∙ ap (λ o. when_some o None (λ b. when_some ((result_ok (decode_pairs (i + 2) rest))) None (λ bs. Some (b ∷ bs)))) (byte_told high low i)
    ∙ ap (λ o. when_some (hex_byte high low) None (λ b. when_some o None (λ bs. Some (b ∷ bs)))) (bytes_told (i + 2) rest)

-- 64 digits are a row, and no other length is
pub row_told : (line : List ℕ) → (result_ok (decode_sized line 32)) ≡ row_in line
row_told line = by_length (eqb (length line) 64) (eqb (length line % 2) 1) (eqb (length line / 2) 32) refl refl refl
  where
    by_length :
        (long odd half : Bool) → eqb (length line) 64 ≡ long → eqb (length line % 2) 1 ≡ odd → eqb (length line / 2) 32 ≡ half
        → (result_ok (if odd then Err OddLength else if half then decode_pairs 0 line else Err InvalidStringLength)) ≡ cond long (hex_bytes line) None
    by_length true true half e o h = absurd (omega (arith, eqb-true (length line) 64 e, eqb-true (length line % 2) 1 o))
    by_length true false true e o h = bytes_told 0 line
    by_length true false false e o h = absurd (eqb-false (length line / 2) 32 h (omega (arith, eqb-true (length line) 64 e)))
    by_length false true half e o h = refl
    by_length false false false e o h = refl
    by_length false false true e o h =
        let odd : length line % 2 ≡ 1 → ⊥ = eqb-false (length line % 2) 1 o in
        absurd (eqb-false (length line) 64 e (omega (arith, eqb-true (length line / 2) 32 h)))
