-- Pages in the order of a release, and what a release does
use Rattle.std.specs.Prelude.{ℕ, ◌+◌, ◌%◌, ◌^◌, cond, List, length, take, nat_lt, slice_index, Option, None, Some}
use Rattle.rules.specs.Memory.{Rows, released_pages, erased}
use Rattle.memory.specs.declared.pages.Pages.{Pages}

abbrev pub pages_of : Pages → List ℕ
pages_of p = take p.len p.list

-- the i-th of the pages
abbrev pub page_at : List ℕ → ℕ → Option ℕ
page_at ps i = cond (nat_lt i (length ps)) (Some (slice_index ps i)) None

-- a release: how many pages it erases, and what rows and count are then
abbrev pub releases : Rows → (writes day : ℕ) → ℕ × Rows × ℕ
releases rows writes day = let ps : List ℕ = released_pages rows day in (length ps, erased rows ps, (writes + length ps) % 2 ^ 32)
