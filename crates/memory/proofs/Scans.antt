-- The records of a memory, one by one
use Rattle.std.proofs.Common.{◌≡◌, ℕ, zero, suc, ◌+◌, ◌-◌, ◌<◌, ◌≤◌, Bool, true, false, cond, not, ◌&&◌, ltb, List, [], ◌∷◌, length, MatchOption, subst, sym, refl, ap, ◌∙◌, arith, Option, None, Some}
use Rattle.std.specs.Bool.{then_some}
use Rattle.std.specs.Option.{option_map, option_or}
use Rattle.rules.specs.Lists.{when_some, same, from}
use Rattle.rules.specs.Records.{Record, lawful}
use Rattle.rules.specs.Rows.{packing, unpacked, read_row}
use Rattle.rules.specs.Memory.{Rows, row_at, intact_in, largest, newest}
use Rattle.memory.specs.declared.entry.Entry.{Entry}
use Rattle.memory.specs.Entries.{row_in, entry_of, entry_read, entry_in, is_older, better_of}
use Rattle.memory.proofs.Judged.{no_row_no_entry}

-- a count with one number less
pub from_next : (a n m : ℕ) → n ≡ suc m → from a n ≡ a ∷ from (a + 1) m
from_next a zero m e = absurd (omega arith)
from_next a (suc n) m e = let same : n ≡ m = omega arith in let next : suc a ≡ a + 1 = omega arith in ap (λ k. a ∷ from (suc a) k) same ∙ ap (λ k. a ∷ from k m) next

pub from_more : (i n : ℕ) → i < n → from i (n - i) ≡ i ∷ from (i + 1) (n - (i + 1))
from_more i n inside = from_next i (n - i) (n - (i + 1)) (omega arith)

pub from_none : (i n : ℕ) → n ≤ i → from i (n - i) ≡ []
from_none i n past = let none_left : n - i ≡ 0 = omega arith in ap (from i) none_left

-- the record of a row, if it has one, and those of the other rows
pub intact_next : (rows : Rows) (i : ℕ) (is : List ℕ) → intact_in rows (i ∷ is) ≡ when_some (entry_in rows i) (intact_in rows is) (λ x. x ∷ intact_in rows is)
unfolding intact_in
intact_next rows i is = by (read_row (row_at rows i))
  where
    by : (o : Option Record)
        → when_some o (intact_in rows is) (λ r. (i, r) ∷ intact_in rows is)
        ≡ when_some (when_some o None (λ r. Some (i, r))) (intact_in rows is) (λ x. x ∷ intact_in rows is)
    by None = refl
    by (Some r) = refl

-- ---- The largest

largest_more : (x : ℕ × Record) (xs : List (ℕ × Record)) → largest (x ∷ xs) ≡ better_of (Some x) (largest xs)
unfolding largest
largest_more x xs = by (largest xs)
  where
    by : (o : Option (ℕ × Record)) → when_some o (Some x) (λ y. cond (ltb x.1.number y.1.number) (Some y) (Some x)) ≡ better_of (Some x) o
    by None = refl
    by (Some y) = refl

-- the largest of the records in these rows, the first row by itself
scan_more : (rows : Rows) (i : ℕ) (is : List ℕ) → largest (intact_in rows (i ∷ is)) ≡ better_of (entry_in rows i) (largest (intact_in rows is))
scan_more rows i is = ap largest (intact_next rows i is) ∙ by (entry_in rows i)
  where
    by : (o : Option (ℕ × Record)) → largest (when_some o (intact_in rows is) (λ x. x ∷ intact_in rows is)) ≡ better_of o (largest (intact_in rows is))
    by None = refl
    by (Some x) = largest_more x (intact_in rows is)

-- a row that is there
pub row_is : (rows : Rows) (i : ℕ) (row : List ℕ) → Some row ≡ row_in rows i → row ≡ row_at rows i
row_is rows i row e = by (ltb i (length rows)) e
  where
    by : (b : Bool) → Some row ≡ cond b (Some (row_at rows i)) None → row ≡ row_at rows i
    by true e = cc
    by false e = cc

-- a row whose number is smaller than the best's changes nothing, whatever else is in it
pub older_stays : (i : ℕ) (row : List ℕ) (best : Option (ℕ × Record)) → true ≡ is_older row best → best ≡ better_of (entry_read i row) best
unfolding read_row
older_stays i row None e = cc
older_stays i row (Some b) e = by (lawful (unpacked row) && same (packing (unpacked row)) row)
  where
    by : (t : Bool) → Some b ≡ better_of (when_some (cond t (Some (unpacked row)) None) None (λ r. Some (i, r))) (Some b)
    by true = ap (λ t. cond t (Some b) (Some (i, unpacked row))) e
    by false = refl

-- any other row's record, if it has one, is the best then
pub newer_wins : (i : ℕ) (row : List ℕ) (best : Option (ℕ × Record)) → false ≡ is_older row best → option_or (entry_read i row) best ≡ better_of (entry_read i row) best
unfolding read_row
newer_wins i row None e = by (entry_read i row)
  where
    by : (o : Option (ℕ × Record)) → option_or o None ≡ better_of o None
    by None = refl
    by (Some x) = refl
newer_wins i row (Some b) e = by (lawful (unpacked row) && same (packing (unpacked row)) row)
  where
    by : (t : Bool)
        → option_or (when_some (cond t (Some (unpacked row)) None) None (λ r. Some (i, r))) (Some b)
        ≡ better_of (when_some (cond t (Some (unpacked row)) None) None (λ r. Some (i, r))) (Some b)
    by true = ap (λ t. cond t (Some b) (Some (i, unpacked row))) e
    by false = refl

-- what an option leads to that is known
at_none : {A : Type 0} (o : Option A) (P : Type 0) (Q : A → Type 0) → o ≡ None → MatchOption o P Q → P
at_none None P Q e m = m
at_none (Some x) P Q e m = cc

at_some : {A : Type 0} (o : Option A) (x : A) (P : Type 0) (Q : A → Type 0) → o ≡ Some x → MatchOption o P Q → Q x
at_some None x P Q e m = cc
at_some (Some y) x P Q e m = let same : y ≡ x = cc in subst Q same m

-- the best of a row and those behind it, by what is told of the row's bytes, of those that are kept and of the record that is read in them
pub better_told :
    (rows : Rows) (i : ℕ) (best : Option (ℕ × Record)) (o kept : Option (List ℕ)) (read : Option Entry) (P : List ℕ → Bool → Type 0) (Q : List ℕ → Type 0) → o ≡ row_in rows i
    → MatchOption o (kept ≡ None) (λ row. (b : Bool) × P row b × (kept ≡ then_some b row)) → ((row : List ℕ) (b : Bool) → P row b → b ≡ not (is_older row best))
    → MatchOption kept (read ≡ None) Q → ((row : List ℕ) → Q row → option_map entry_of read ≡ entry_read i row)
    → option_or (option_map entry_of read) best ≡ better_of (entry_in rows i) best
better_told rows i best None kept read P Q e h k m r =
    ap (λ o. option_or (option_map entry_of o) best) (at_none kept (read ≡ None) Q h m) ∙ ap (λ o. better_of o best) (no_row_no_entry rows i e)
better_told rows i best (Some row) kept read P Q e h k m r = by (is_older row best) refl ∙ ap (λ bytes. better_of (entry_read i bytes) best) (row_is rows i row e)
  where
    kept_by : (t : Bool) → is_older row best ≡ t → kept ≡ then_some (not t) row
    kept_by t is = h.2 ∙ ap (λ b. then_some b row) (k row h.0 h.1 ∙ ap not is)

    by : (t : Bool) → is_older row best ≡ t → option_or (option_map entry_of read) best ≡ better_of (entry_read i row) best
    by true is = ap (λ o. option_or (option_map entry_of o) best) (at_none kept (read ≡ None) Q (kept_by true is) m) ∙ older_stays i row best (sym is)
    by false is = ap (λ o. option_or o best) (r row (at_some kept row (read ≡ None) Q (kept_by false is) m)) ∙ newer_wins i row best (sym is)

module _ (rows : Rows) where
  -- the best of the rows from one on
  abbrev pub best_from : ℕ → Option (ℕ × Record)
  best_from row = largest (intact_in rows (from row (length rows - row)))

  pub from_end : (row : ℕ) → length rows ≤ row → None ≡ best_from row
  unfolding largest intact_in
  from_end row past = sym (ap (λ is. largest (intact_in rows is)) (from_none row (length rows) past))

  pub from_before : (row : ℕ) → row < length rows → best_from row ≡ better_of (entry_in rows row) (best_from (row + 1))
  from_before row inside = ap (λ is. largest (intact_in rows is)) (from_more row (length rows) inside) ∙ scan_more rows row (from (row + 1) (length rows - (row + 1)))

  pub from_start : best_from 0 ≡ newest rows
  unfolding newest
  from_start = let all : length rows - 0 ≡ length rows = omega arith in ap (λ n. largest (intact_in rows (from 0 n))) all
