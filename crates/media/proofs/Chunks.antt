-- The rows of bytes are their chunks of 32
use Rattle.std.proofs.Common.{◌≡◌, ℕ, zero, suc, ◌*◌, ◌/◌, List, ◌∷◌, map, length, drop, refl, ap, ◌∙◌, arith}
use Rattle.std.specs.Simd.{first_chunks}
use Rattle.std.proofs.lemmas.List.{drop-drop}
use Rattle.rules.specs.Lists.{from}
use Rattle.rules.specs.Media.{row_in, rows_in}

-- the chunks from row a on
chunks_from : (bytes : List ℕ) (a n : ℕ) → first_chunks 32 n (drop (a * 32) bytes) ≡ map (row_in bytes) (from a n)
chunks_from bytes a zero = refl
chunks_from bytes a (suc n) =
    let next : drop 32 (drop (a * 32) bytes) ≡ drop (suc a * 32) bytes = drop-drop 32 (a * 32) bytes ∙ ap (λ k. drop k bytes) (omega arith) in
    ap (λ rest. row_in bytes a ∷ first_chunks 32 n rest) next ∙ ap (λ rest. row_in bytes a ∷ rest) (chunks_from bytes (suc a) n)

pub chunks_are : (bytes : List ℕ) → first_chunks 32 (length bytes / 32) bytes ≡ rows_in bytes
unfolding rows_in
chunks_are bytes = chunks_from bytes 0 (length bytes / 32)
