-- The rows and pages that are left of a round
use Rattle.std.proofs.Common.{◌≡◌, ℕ, ◌+◌, ◌-◌, ◌*◌, Bool, true, false, cond, eqb, List, [], ◌∷◌, ◌++◌, drop, length, sym, refl, ap, ◌∙◌, ap₂, arith, Option, None, Some}
use Rattle.std.proofs.lemmas.List.{drop_all, drop_more, length-append}
use Rattle.std.proofs.Math.Nat.{sub-zero}
use Rattle.std.specs.Iterator.{Yields}
use Rattle.std.specs.Iterator.Adapters.{chain_steps, chain_first, chain_second}
use Rattle.std.specs.declared.iter.Chain.{Chain}
use Rattle.std.specs.declared.ops.Range.{Range}
use Rattle.std.proofs.iter.Yields.{nat_range_steps}
use Rattle.std.proofs.lemmas.Iterator.{YieldsList}
use Rattle.std.proofs.lemmas.Iterator.Consumers.{YieldsList-at, YieldsList-from_chain, YieldsList-turn, YieldsList-end}
use Rattle.rules.specs.Lists.{when_some, or_else}
use Rattle.rules.specs.Records.{Record}
use Rattle.rules.specs.Memory.{Rows, intact_in, along_round, find_among, disorder_among, disorder_after}
use Rattle.rules.proofs.Rounds.{turn}
use Rattle.rules.proofs.Memories.{start, round_rows}
use Rattle.memory.specs.Entries.{entry_in}
use Rattle.memory.specs.Rounds.{IsAround, if_numbered, may_follow}
use Rattle.memory.proofs.PageScans.{counts_up}
use Rattle.memory.proofs.Scans.{intact_next}

-- ---- A turn of a loop over an iterator around, which has given some of the numbers

-- an iterator around gives the numbers of the round
pub around_gives : (first count : ℕ) (c it : Chain (Range ℕ) (Range ℕ)) → IsAround first count c → it ≡ c → YieldsList (chain_steps nat_range_steps nat_range_steps) (λ x. x) it (turn first count)
around_gives first count c it h same =
    let whole : (chain_second c).end - (chain_second c).start ≡ first = ap (λ (r : Range ℕ). r.end - r.start) h.1 ∙ sub-zero first in
    YieldsList-at same
    (YieldsList-from_chain (counts_up (chain_first c) first (count - first) (ap (λ (r : Range ℕ). r.start) h.0) (ap (λ (r : Range ℕ). r.end - r.start) h.0))
    (counts_up (chain_second c) 0 first (ap (λ (r : Range ℕ). r.start) h.1) whole) h.2 h.3)

module _ (first count : ℕ) {c it : Chain (Range ℕ) (Range ℕ)} (around : IsAround first count c) (same : it ≡ c)
    (passed : List ℕ) (t : Chain (Range ℕ) (Range ℕ)) (so_far : Yields (chain_steps nat_range_steps nat_range_steps) it passed t)
    (r : Option ℕ) (u : Chain (Range ℕ) (Range ℕ)) (step : chain_steps nat_range_steps nat_range_steps t r u) where
  -- it gives the next number
  pub turn_more : (i : ℕ) → r ≡ Some i → drop (length passed) (turn first count) ≡ i ∷ drop (length (passed ++ i ∷ [])) (turn first count)
  turn_more i is =
      let here = YieldsList-turn (around_gives first count c it around same) passed t so_far r u i is step in
      let one_more : length passed + 1 ≡ length (passed ++ i ∷ []) = sym (length-append passed (i ∷ [])) in
      drop_more (turn first count) (length passed) i here.0 ∙ ap₂ (λ j n. j ∷ drop n (turn first count)) (sym here.1) one_more

  -- it has given all
  pub turn_end : r ≡ None → drop (length passed) (turn first count) ≡ []
  turn_end is = drop_all (length passed) (turn first count) (omega (arith, (YieldsList-end (around_gives first count c it around same) passed t so_far r u is step).1))

-- ---- The records that are left of a round

-- of the records that come after the last one, if there is one, the row of the first that breaks the order
abbrev pub disorder_from : (last : Option Record) → List (ℕ × Record) → Option ℕ
disorder_from last xs = when_some last (disorder_among xs) (λ r. disorder_after r xs)

order_next :
    (last : Option Record) (x : ℕ × Record) (xs : List (ℕ × Record))
    → disorder_from last (x ∷ xs) ≡ cond (may_follow last x.1) (disorder_from (Some x.1) xs) (Some x.0)
unfolding disorder_among disorder_after
order_next None x xs = refl
order_next (Some r) x xs = refl

-- at first they are all records, as they come along the round
pub records_begin : (rows : Rows) (count : ℕ) → length rows ≡ 16 * count → along_round rows ≡ intact_in rows (turn (start rows) (length rows))
unfolding along_round
records_begin rows count whole = ap (intact_in rows) (round_rows rows count whole)

module _ (rows : Rows) {left rest : List ℕ} {i : ℕ} (more : left ≡ i ∷ rest) where
  -- the record of the next row, if it has one, and those after it
  next_records : intact_in rows left ≡ when_some (entry_in rows i) (intact_in rows rest) (λ x. x ∷ intact_in rows rest)
  next_records = ap (intact_in rows) more ∙ intact_next rows i rest

  -- the record with the number is that of the next row, or among the rest
  pub find_step : (n : ℕ) {found o : Option Record} → found ≡ find_among n (intact_in rows left) → o ≡ if_numbered n (entry_in rows i) → found ≡ or_else o (find_among n (intact_in rows rest))
  unfolding find_among
  find_step n {found} {o} so_far e = so_far ∙ ap (find_among n) next_records ∙ by (entry_in rows i) ∙ ap (λ a. or_else a (find_among n (intact_in rows rest))) (sym e)
    where
      either : (x : ℕ × Record) (t : Bool) → cond t (Some x.1) (find_among n (intact_in rows rest)) ≡ or_else (cond t (Some x.1) None) (find_among n (intact_in rows rest))
      either x true = refl
      either x false = refl

      by : (p : Option (ℕ × Record)) → find_among n (when_some p (intact_in rows rest) (λ x. x ∷ intact_in rows rest)) ≡ or_else (if_numbered n p) (find_among n (intact_in rows rest))
      by None = refl
      by (Some x) = either x (eqb x.1.number n)

  -- after a row without a record the break is among the rest
  pub order_passes : (last : Option Record) {break : Option ℕ} → break ≡ disorder_from last (intact_in rows left) → None ≡ entry_in rows i → break ≡ disorder_from last (intact_in rows rest)
  order_passes last so_far e = so_far ∙ ap (disorder_from last) (next_records ∙ ap (λ o. when_some o (intact_in rows rest) (λ x. x ∷ intact_in rows rest)) (sym e))

  -- after a record that may follow it is too; a record that may not is the break
  pub order_more : (last : Option Record) (x : ℕ × Record) (t : Bool) {break : Option ℕ} → break ≡ disorder_from last (intact_in rows left) → Some x ≡ entry_in rows i → t ≡ may_follow last x.1
      → break ≡ cond t (disorder_from (Some x.1) (intact_in rows rest)) (Some x.0)
  order_more last x t so_far e is =
      so_far ∙ ap (disorder_from last) (next_records ∙ ap (λ o. when_some o (intact_in rows rest) (λ x. x ∷ intact_in rows rest)) (sym e))
      ∙ order_next last x (intact_in rows rest) ∙ ap (λ t. cond t (disorder_from (Some x.1) (intact_in rows rest)) (Some x.0)) (sym is)

pub none_found : (rows : Rows) (n : ℕ) {left : List ℕ} {found : Option Record} → found ≡ find_among n (intact_in rows left) → left ≡ [] → found ≡ None
unfolding find_among intact_in
none_found rows n so_far e = so_far ∙ ap (λ is. find_among n (intact_in rows is)) e

pub none_breaks : (rows : Rows) (last : Option Record) {left : List ℕ} {break : Option ℕ} → break ≡ disorder_from last (intact_in rows left) → left ≡ [] → break ≡ None
unfolding disorder_among disorder_after intact_in
none_breaks rows last so_far e = so_far ∙ ap (λ is. disorder_from last (intact_in rows is)) e ∙ by last
  where
    by : (last : Option Record) → disorder_from last [] ≡ None
    by None = refl
    by (Some r) = refl
