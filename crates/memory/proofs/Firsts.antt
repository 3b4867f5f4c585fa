-- The first of some rows at which a closure finds something
use Rattle.std.proofs.Common.{◌≡◌, ℕ, zero, suc, ◌+◌, ◌<◌, true, List, [], ◌∷◌, map-id, ok_or, slice_get, IfSome, MatchOption, sym, refl, ap, ◌∙◌, subst, Option, None, Some, Result}
use Rattle.std.specs.Prelude.{option_map}
use Rattle.std.specs.Fn.{Mut, Called}
use Rattle.std.specs.List.{FoldsTo}
use Rattle.std.specs.Iterator.{AlwaysYields, Yields, DrainsIf, FindsMapped}
use Rattle.std.specs.Iterator.Runs.{Run, SomeRun, YieldsRun, AllItemsGive, IsFirstToGive}
use Rattle.std.proofs.lemmas.Iterator.{YieldsList, items_from_drains}
use Rattle.rules.specs.Lists.{when_some, or_else}
use Rattle.rules.specs.Records.{Record as TheRecord}
use Rattle.rules.specs.Memory.{Rows, intact_in, find, find_among}
use Rattle.rules.specs.Media.{Outcome, accepted, refused}
use Rattle.records.specs.declared.record.Record.{Record}
use Rattle.records.specs.RecordsOf.{record_of}
use Rattle.memory.specs.declared.fault.MemoryFault.{MemoryFault}
use Rattle.memory.specs.declared.fault.MemoryFault.TheVariants.{Unknown}
use Rattle.memory.specs.Entries.{entry_in}
use Rattle.memory.specs.Faults.{outcome, finds, found as record_found}
use Rattle.memory.specs.Rounds.{if_numbered}
use Rattle.memory.proofs.Turns.{find_step, none_found}

-- the first answer of h that is one
abbrev pub first_some : {A D : Type 0} → (A → Option D) → List A → Option D
first_some h [] = None
first_some h (x ∷ xs) = or_else (h x) (first_some h xs)

none_there : {A D : Type 0} (h : A → Option D) (xs : List A) → ((k : ℕ) → IfSome (slice_get xs k) (λ x. None ≡ h x)) → None ≡ first_some h xs
none_there h [] e = refl
none_there h (x ∷ xs) e = none_there h xs (λ k. e (suc k)) ∙ ap (λ o. or_else o (first_some h xs)) (e zero)

-- a closure whose answers tell what h says
module _ {S A F C D : Type 0} (steps : S → Option A → S → Type 0) (g : Mut F (A × Unit {0}) (Option C)) (tell : C → D) (h : A → Option D) (f : F)
    (k : (x : A) (o : Option C) (q : F) → Called g f (x, tt) o q → (q ≡ f) × (option_map tell o ≡ h x)) where
  told : (x : A) (o : Option C) (p q : F) → p ≡ f → Called g p (x, tt) o q → (q ≡ f) × (option_map tell o ≡ h x)
  told x o p q same c = k x o q (subst (λ p. Called g p (x, tt) o q) same c)

  -- it stopped at an answer
  stopped :
      (y : C) (xs all : List A) (o : Option A) (s t u : S) (p j : F) → p ≡ f → AlwaysYields steps (λ x. x) s all → Yields steps s xs t → steps t o u
      → FoldsTo (λ p x q. Called g p (x, tt) None q) p xs j → MatchOption o (Some y ≡ None) (λ x. (q : F) × Called g j (x, tt) (Some y) q)
      → Some (tell y) ≡ first_some h all
  stopped y [] all None s t u p j same gives so_far step passed stop = cc
  stopped y [] [] (Some x) s t u p j same gives so_far step passed stop = absurd (gives x u (subst (λ s. steps s (Some x) u) (sym so_far) step))
  stopped y [] (z ∷ all) (Some x) s t u p j same gives so_far step passed stop =
      let here = (gives.1 x u (subst (λ s. steps s (Some x) u) (sym so_far) step)).0 in
      ap (λ o. or_else o (first_some h all)) ((told x (Some y) j stop.0 (sym passed ∙ same) stop.1).1 ∙ ap h here)
  stopped y (x ∷ xs) [] o s t u p j same gives so_far step passed stop = absurd (gives x so_far.0 so_far.1)
  stopped y (x ∷ xs) (z ∷ all) o s t u p j same gives so_far step passed stop =
      let here = gives.1 x so_far.0 so_far.1 in
      let past = told x None p passed.0 same passed.1 in
      stopped y xs all o so_far.0 t u passed.0 j past.0 here.1 so_far.2 step passed.2 stop
      ∙ ap (λ o. or_else o (first_some h all)) (past.1 ∙ ap h here.0)

  -- it gave no answer
  ran_out : (all : List A) (s : S) → YieldsList steps (λ x. x) s all → (p : Run steps) → p.from ≡ s → p.whole ≡ true → AllItemsGive p g f None → None ≡ first_some h all
  unfolding YieldsRun
  ran_out all s gives p begins whole none =
      let drained : DrainsIf steps (Unit {0}) s p.items = (p.gave.0.0, subst (λ s. Yields steps s p.items p.gave.0.0) begins p.gave.0.1, λ _. p.gave.0.2 whole) in
      let each = none (λ x o q c. (k x.0 o q c).0) in
      none_there h p.items (λ i. subst (λ o. IfSome o (λ x. None ≡ h x)) (p.gave.1 i) (answered (p.at i) (each i)))
      ∙ ap (first_some h) (sym (map-id p.items) ∙ items_from_drains p.items drained gives)
    where
      answered : (o : Option A) → IfSome o (λ x. Called g f (x, tt) None f) → IfSome o (λ x. None ≡ h x)
      answered None c = c
      answered (Some x) c = (k x None f c).1

-- what `find_map` answers is the first answer
pub find_map_is :
    {S A F C D : Type 0} {steps : S → Option A → S → Type 0} {g : Mut F (A × Unit {0}) (Option C)} (tell : C → D) (h : A → Option D) (f : F) (all : List A) (s u : S) (r : Option C)
    → FindsMapped steps g s f r u
    → SomeRun steps s (λ p. MatchOption r ((p.whole ≡ true) × AllItemsGive p g f None) (λ y. (i : ℕ) × (i < p.len) × (p.len ≡ i + 1) × IsFirstToGive p g f (Some y) None i))
    → YieldsList steps (λ x. x) s all → ((x : A) (o : Option C) (q : F) → Called g f (x, tt) o q → (q ≡ f) × (option_map tell o ≡ h x)) → option_map tell r ≡ first_some h all
find_map_is {steps = steps} {g = g} tell h f all s u None ran runs gives k = ran_out steps g tell h f k all s gives runs.0 runs.1 runs.2.0 runs.2.1
find_map_is {steps = steps} {g = g} tell h f all s u (Some y) ran runs gives k = stopped steps g tell h f k y ran.0 all ran.1 s ran.3.0 u f ran.2 refl gives.runs ran.3.1 ran.3.2 ran.4 ran.5

-- the first record with the number
pub first_numbered : (rows : Rows) (n : ℕ) (is : List ℕ) → first_some (λ i. if_numbered n (entry_in rows i)) is ≡ find_among n (intact_in rows is)
first_numbered rows n [] = sym (none_found rows n {left = []} refl refl)
first_numbered rows n (i ∷ is) = ap (or_else (if_numbered n (entry_in rows i))) (first_numbered rows n is) ∙ sym (find_step rows {rest = is} refl n refl refl)

-- the record that is found, or the fault, by what the closure found along the round
pub finds_told : (rows : Rows) (n : ℕ) (o : Option Record) (r : Result Record MemoryFault) → option_map record_of o ≡ find rows n → r ≡ ok_or o Unknown
    → finds rows n ≡ (outcome r, record_found r)
finds_told rows n o r e is =
    ap (λ o. when_some o (refused 26 0, None) (λ r. (accepted, Some r))) (sym e) ∙ by o ∙ ap {B = Outcome × Option TheRecord} (λ r. (outcome r, record_found r)) (sym is)
  where
    by : (o : Option Record) → when_some {B = Outcome × Option TheRecord} (option_map record_of o) (refused 26 0, None) (λ r. (accepted, Some r)) ≡ (outcome (ok_or o Unknown), record_found (ok_or o Unknown))
    by None = refl
    by (Some x) = refl
