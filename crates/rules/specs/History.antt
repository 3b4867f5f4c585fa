-- Lists of calls and cuts, and what can be told from such a list alone: settings, samples, zero and tare as of its end
use Rattle.std.specs.Prelude.{◌≡◌, ℕ, zero, suc, Bool, true, false, cond, List, [], ◌∷◌, ◌++◌, map, take, ℤ, pos, ◌-ℤ◌, int_lt, unsigned_abs, Option, None, Some}
use Rattle.rules.specs.Lists.{when_some}
use Rattle.rules.specs.Loads.{mean, rounded, gross_of}
use Rattle.rules.specs.Settings.{Settings, min_of}
use Rattle.rules.specs.Terminal.{Tare, no_tare, weighed, preset, World, Key, set_zero, take_tare, clear_tare, preset_tare, Entries, Releasing, Call, opening, sample, key, weigh, release, Answer, refuses}

-- a call and its answer, or a cut: inside a store, inside a release, or elsewhere, where no row changes
pub data Event : Type 0 where
  answered : Call → Answer → Event
  cut_in_store : Event
  cut_in_release : Releasing → Event
  switched_off : Event

-- an event, and the world in which it began
pub record Moment : Type 0 where
  pub before : World
  pub event : Event

-- a list of moments, the latest first
abbrev pub History : Type 0
History = List Moment

-- ---- Kinds of calls: the argument of a call of the kind, nothing for any other

abbrev pub as_opening : Call → Option Settings
as_opening (opening s) = Some s
as_opening c = None

abbrev pub as_sample : Call → Option ℤ
as_sample (sample x) = Some x
as_sample c = None

abbrev pub as_key : Call → Option Key
as_key (key k) = Some k
as_key c = None

abbrev pub as_weigh : Call → Option Entries
as_weigh (weigh e) = Some e
as_weigh c = None

abbrev pub as_release : Call → Option Releasing
as_release (release r) = Some r
as_release c = None

-- whether an answer is no refusal
abbrev pub is_accepted : Answer → Bool
is_accepted (refuses n place) = false
is_accepted a = true

-- of a moment, the argument of a call of that kind, whatever its answer
abbrev pub called : {A : Type 0} → (Call → Option A) → Moment → Option A
called {A} kind m = of m.event
  where
    of : Event → Option A
    of (answered c a) = kind c
    of e = None

-- of a moment, the argument of an accepted call of that kind
abbrev pub accepted : {A : Type 0} → (Call → Option A) → Moment → Option A
accepted {A} kind m = of m.event
  where
    of : Event → Option A
    of (answered c a) = cond (is_accepted a) (kind c) None
    of e = None

-- the release of an accepted call, or of one that power failed in
abbrev pub released : Moment → Option Releasing
released m = of m.event
  where
    of : Event → Option Releasing
    of (answered c a) = cond (is_accepted a) (as_release c) None
    of (cut_in_release r) = Some r
    of e = None

-- ---- Settings, samples, zero and tare as of the end of a list

-- those of the last opening
abbrev pub settings_then : History → Option Settings
settings_then [] = None
settings_then (m ∷ h) = when_some (accepted as_opening m) (settings_then h) Some

-- the samples that were sent, the latest first, and whether each was accepted
abbrev pub samples_sent : History → List (ℤ × Bool)
samples_sent [] = []
samples_sent (m ∷ h) = when_some (called as_sample m) (samples_sent h) (λ x. (x, when_some (accepted as_sample m) false (λ y. true)) ∷ samples_sent h)

-- the loads of the latest eight
abbrev pub eight_samples : History → List ℤ
eight_samples h = map (λ s. s.0) (take 8 (samples_sent h))

-- what comes before the latest n samples
abbrev pub before_samples : ℕ → History → History
before_samples zero h = h
before_samples (suc n) [] = []
before_samples (suc n) (m ∷ h) = when_some (called as_sample m) (before_samples (suc n) h) (λ x. before_samples n h)

-- the zero after an accepted key, by the mean then and the zero before
abbrev pub zero_after : Key → (mean old : ℤ) → ℤ
zero_after set_zero mean old = mean
zero_after take_tare mean old = old
zero_after clear_tare mean old = old
zero_after (preset_tare v) mean old = old

-- the zero that the last opening and the accepted keys since it set
abbrev pub zero_then : History → ℤ
zero_then [] = pos 0
zero_then (m ∷ h) =
    when_some (accepted as_opening m) (when_some (accepted as_key m) (zero_then h) (λ k. zero_after k (mean (eight_samples h)) (zero_then h))) (λ s. pos 0)

-- the gross weight, from the latest eight samples
abbrev pub gross_then : History → ℤ
gross_then h = gross_of (eight_samples h) (zero_then h)

-- the tare after an accepted key
abbrev pub tare_after : Key → (gross : ℤ) → Tare → Tare
tare_after set_zero gross old = old
tare_after take_tare gross old = weighed (unsigned_abs gross)
tare_after clear_tare gross old = no_tare
tare_after (preset_tare v) gross old = preset (unsigned_abs v)

-- the tare that the last opening and the accepted keys since it set
abbrev pub tare_then : History → Tare
tare_then [] = no_tare
tare_then (m ∷ h) =
    when_some (accepted as_opening m) (when_some (accepted as_key m) (tare_then h) (λ k. tare_after k (gross_then h) (tare_then h))) (λ s. no_tare)

-- ---- Moments of a list

-- a list in three parts: what came after a moment, the moment, and what came before it
pub record Split (h : History) : Type 0 where
  pub after : History
  pub now : Moment
  pub before : History
  pub whole : h ≡ after ++ (now ∷ before)

-- a moment, with what came before it, lies in a list
abbrev pub LiesIn : History → (now : Moment) → (before : History) → Type 0
LiesIn g now before = (z : Split g) × (z.now ≡ now) × (z.before ≡ before)

-- the platform was empty at a moment: an accepted sample, less the zero then, rounded to under the smallest load
pub record Emptied {h : History} (x : Split h) : Type 0 where
  pub load : ℤ
  pub settings : Settings
  pub taken : accepted as_sample x.now ≡ Some load
  pub opened : settings_then x.before ≡ Some settings
  pub under : int_lt (rounded (load -ℤ zero_then x.before)) (pos (min_of settings)) ≡ true
