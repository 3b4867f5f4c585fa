-- A line of input that is being read
use Rattle.std.specs.Prelude.{ℕ, List, [], ◌∷◌, ◌++◌, take}

-- one byte more, up to the 65th
abbrev pub with_byte : List ℕ → ℕ → List ℕ
with_byte text byte = take 65 (text ++ (byte ∷ []))
