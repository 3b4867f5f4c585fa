-- The cases of a bundle
use Rattle.std.specs.Prelude.{ℕ, ◌+◌, Bool, false, ◌&&◌, ◌==◌, List, [], ◌∷◌, length, position, slice_index_or}
use Rattle.std.specs.Option.{unwrap_or}

-- these three bytes end a line and begin a case: a line feed, 10, an equals sign, 61, and a space, 32
abbrev pub begins : List ℕ → Bool
begins (a ∷ b ∷ c ∷ []) = (a == 10) && ((b == 61) && (c == 32))
begins bytes = false

-- the byte at this place and the two behind it do
abbrev pub begins_at : ℕ → List ℕ → Bool
begins_at k bytes = begins (slice_index_or bytes k 0 ∷ slice_index_or bytes (k + 1) 0 ∷ slice_index_or bytes (k + 2) 0 ∷ [])

-- how long the name of a case is: up to its first line feed, or all of the case where it has none
abbrev pub name_size : (case : List ℕ) → ℕ
name_size case = unwrap_or (position (λ b. b == 10) case) (length case)
