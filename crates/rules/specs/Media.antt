-- The medium: bytes as rows, a count of writes, and what its calls answer and do
use Rattle.std.specs.Prelude.{◌≡◌, ℕ, ◌+◌, ◌*◌, ◌/◌, ◌%◌, ◌^◌, ◌<◌, ◌≤◌, Bool, cond, ◌&&◌, List, [], ◌∷◌, map, length, take, drop, ◌==◌, nat_le, nat_lt, slice_set}
use Rattle.rules.specs.Lists.{from}
use Rattle.rules.specs.Rows.{is_blank}
use Rattle.rules.specs.Memory.{Rows, row_at, pages, erased}

-- ---- Bytes as rows

-- so many bytes make a medium: 512 for each of 2 to 64 pages
abbrev pub is_medium_size : (size : ℕ) → Bool
is_medium_size size = size % 512 == 0 && (nat_le 1024 size && nat_le size 32768)

-- row r is bytes 32 r to 32 r + 31
abbrev pub row_in : (bytes : List ℕ) (r : ℕ) → List ℕ
row_in bytes r = take 32 (drop (r * 32) bytes)

unfoldable pub rows_in : (bytes : List ℕ) → Rows
rows_in bytes = map (row_in bytes) (from 0 (length bytes / 32))

-- 2 to 64 pages of 16 rows of 32 bytes
pub record Shaped (rows : Rows) : Type 0 where
  pub pages : ℕ
  pub least : 2 ≤ pages
  pub most : pages ≤ 64
  pub whole : length rows ≡ 16 * pages
  pub wide : (r : ℕ) → r < length rows → length (row_at rows r) ≡ 32

-- ---- Calls

-- accepted, or refused by its number and its place
pub data Outcome : Type 0 where
  accepted : Outcome
  refused : (number place : ℕ) → Outcome

-- the count of writes goes round at 2 ^ 32
abbrev pub one_more : (writes : ℕ) → ℕ
one_more writes = (writes + 1) % 2 ^ 32

-- read: the outcome, and what the reader's 32 bytes hold then
abbrev pub reads : Rows → (row : ℕ) (out : List ℕ) → Outcome × List ℕ
reads rows row out = cond (nat_lt row (length rows)) (accepted, row_at rows row) (refused 2 row, out)

-- program: a blank row becomes the given bytes
abbrev pub programs : Rows → (writes row : ℕ) (bytes : List ℕ) → Outcome × Rows × ℕ
programs rows writes row bytes =
    cond (nat_lt row (length rows))
    (cond (is_blank (row_at rows row)) (accepted, slice_set rows row bytes, one_more writes) (refused 3 row, rows, writes))
    (refused 2 row, rows, writes)

-- erase: all rows of the page become blank
abbrev pub erases : Rows → (writes page : ℕ) → Outcome × Rows × ℕ
erases rows writes page = cond (nat_lt page (pages rows)) (accepted, erased rows (page ∷ []), one_more writes) (refused 2 page, rows, writes)
