-- The rows of a memory as they come along its round, and what is told of them
use Rattle.std.specs.Prelude.{◌≡◌, ℕ, ◌-◌, Bool, true, false, cond, not, ◌&&◌, length, ◌==◌, nat_lt, Option, None, Some}
use Rattle.std.specs.Iterator.Adapters.{chain_first, chain_second, chain_first_done, chain_second_done}
use Rattle.std.specs.declared.iter.Chain.{Chain}
use Rattle.std.specs.declared.ops.Range.{Range}
use Rattle.rules.specs.Lists.{when_some, from}
use Rattle.rules.specs.Records.{Record, earlier}
use Rattle.rules.specs.Memory.{Rows, pages, page_of, newest, intact_in, free_in, holds_record}
use Rattle.rules.proofs.Memories.{first_page}

-- the numbers of a round of so many rows or pages that starts with the first: those from it on, and then those before it
abbrev pub IsAround : (first count : ℕ) → Chain (Range ℕ) (Range ℕ) → Type 0
IsAround first count c =
    (chain_first c ≡ record { start = first; end = count }) × (chain_second c ≡ record { start = 0; end = first })
    × (chain_first_done c ≡ false) × (chain_second_done c ≡ false)

-- the record, if it has that number
abbrev pub if_numbered : (number : ℕ) → Option (ℕ × Record) → Option Record
if_numbered number o = when_some o None (λ x. cond (x.1.number == number) (Some x.1) None)

-- a record may come after the last one, if there is one: its number is larger, and its stamp not earlier
abbrev pub may_follow : (last : Option Record) → Record → Bool
may_follow last r = when_some last true (λ q. nat_lt q.number r.number && not (earlier r q))

-- one of the rows from the first up to the end holds a record
abbrev pub any_record : Rows → (first end : ℕ) → Bool
any_record rows first end = not (length (intact_in rows (from first (end - first))) == 0)

-- the free row of a page, provided that it holds no record
abbrev pub free_in_empty : Rows → (page : ℕ) → Option ℕ
free_in_empty rows page = cond (holds_record rows page) None (free_in rows page)

-- the page of the newest record
abbrev pub newest_page : Rows → Option ℕ
newest_page rows = when_some (newest rows) None (λ n. Some (page_of n.0))

-- the page after the newest record's, the first after the last; the first where there is no record
abbrev pub next_page : Rows → ℕ
next_page rows = cond (nat_lt (first_page (newest rows)) (pages rows)) (first_page (newest rows)) 0
