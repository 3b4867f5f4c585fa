-- Hex digits by pairs, and a line that is being read
use Rattle.std.proofs.Common.{◌≡◌, ℕ, ◌<◌, List, [], ◌∷◌, ◌++◌, length, take, sym, arith}
use Rattle.std.proofs.lemmas.List.{take_all, take_at, length_push}

-- one byte more has room
pub pushed : (text : List ℕ) (byte : ℕ) → length text < 65 → text ++ (byte ∷ []) ≡ take 65 (text ++ (byte ∷ []))
pushed text byte room = sym (take_all 65 (text ++ (byte ∷ [])) (omega (arith, length_push text byte)))

-- a full line stays as it is
pub full : (text : List ℕ) (byte : ℕ) → length text ≡ 65 → text ≡ take 65 (text ++ (byte ∷ []))
full text byte size = sym (take_at text (byte ∷ []) 65 size)
