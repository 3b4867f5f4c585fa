-- What the calls of an indicator answer, and how they act
use Rattle.std.specs.Prelude.{◌≡◌, ℕ, ◌+◌, cond, not, ◌||◌, List, [], ◌∷◌, ℤ, pos, Ok, Err, Result, int_lt, nat_lt, Some}
use Rattle.rules.specs.Settings.{min_of}
use Rattle.rules.specs.Records.{lawful_mark, typed_mark}
use Rattle.rules.specs.Memory.{Rows}
use Rattle.rules.specs.Terminal.{Indicator as TheIndicator, World, Call, Answer, done, refuses, Refusal, ◌when◌, is_pending, is_waiting, is_tared, is_settled, gross, net, Entries, acts}
use Rattle.indicator.specs.declared.fault.IndicatorFault.{IndicatorFault}
use Rattle.indicator.specs.FaultsOf.{fault_number, fault_place}

abbrev pub answer : {A : Type 0} → Result A IndicatorFault → Answer
answer (Ok _) = done
answer (Err e) = refuses (fault_number e) (fault_place e)

-- the world of an indicator over some memory
abbrev pub powered : Rows → (writes : ℕ) → TheIndicator → World
powered rows writes i = record { rows = rows; writes = writes; on = Some i }

-- whatever the memory, the call has this answer, leaves this indicator, and leaves the memory as it was
abbrev pub ActsOn : Call → TheIndicator → Answer → TheIndicator → Type 0
ActsOn c i a after = (rows : Rows) (writes : ℕ) → acts c (powered rows writes i) ≡ (a, powered rows writes after)

-- ---- Parts of the tables of refusals

-- the first of these that holds, or done
abbrev pub first_of : List Refusal → Answer
first_of [] = done
first_of (x ∷ xs) = cond x.holds (refuses x.number x.place) (first_of xs)

-- nothing is pending
abbrev pub idle_refusals : TheIndicator → List Refusal
idle_refusals i = 8 when is_pending i.state ∷ []

-- so it is, and no tare is set
abbrev pub untared_refusals : TheIndicator → List Refusal
untared_refusals i = 8 when is_pending i.state ∷ 9 when is_tared i.tare ∷ []

-- what is entered may stand in a record
abbrev pub entry_refusals : Entries → List Refusal
entry_refusals e = 13 when nat_lt 1439 e.minute ∷ 14 when not (lawful_mark (typed_mark e.mark)) ∷ 15 when nat_lt 1000000 e.unit_price ∷ []

-- nothing is pending, and the platform was empty
abbrev pub ready_refusals : TheIndicator → List Refusal
ready_refusals i = 8 when is_pending i.state ∷ 16 when is_waiting i.state ∷ []

-- the window is full and stable
abbrev pub settled_refusals : TheIndicator → List Refusal
settled_refusals i = 10 when not (is_settled i) ∷ []

-- the tare is at least 1 and at most the largest load
abbrev pub tare_refusals : TheIndicator → ℤ → List Refusal
tare_refusals i v = 12 when (int_lt v (pos 1) || int_lt (pos i.settings.max) v) ∷ []

-- the window is full and stable, and the load is one that may be weighed
abbrev pub load_refusals : TheIndicator → List Refusal
load_refusals i =
    10 when not (is_settled i) ∷ 17 when int_lt (gross i) (pos (min_of i.settings)) ∷ 18 when int_lt (pos (i.settings.max + 9)) (gross i)
    ∷ 19 when int_lt (net i) (pos 1) ∷ []
