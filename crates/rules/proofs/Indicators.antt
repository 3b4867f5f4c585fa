-- What the indicator shows, told from the list alone
use Rattle.std.proofs.Common.{◌≡◌, ℕ, suc, ◌^◌, ◌<◌, ◌≤◌, true, false, not, ◌&&◌, eqb, List, [], ◌∷◌, ◌++◌, length, ℤ, pos, ◌-ℤ◌, nat_abs, sym, refl, ap, ◌∙◌, None, Some}
use Rattle.rules.proofs.Options.{none_or_some}
use lib.Signed.{lt_z}
use Rattle.std.proofs.lemmas.Bool.{and_parts, eqb-true, not-false, true≢false, cond_both}
use Rattle.rules.specs.Lists.{AllOf}
use Rattle.rules.specs.Loads.{mean, rounded, gross_of, stable}
use Rattle.rules.specs.Records.{Record, lawful, numbered}
use Rattle.rules.specs.Settings.{Settings, Passed, min_of}
use Rattle.rules.specs.Terminal.{Tare, no_tare, weighed, preset, State, waiting, ready, pending, Indicator, World, Key, set_zero, take_tare, clear_tare, preset_tare, Entries, opening, sample, key, weigh, store, void, done, gives, refuses, is_settled, gross, fresh, with_window, with_state, with_zero, with_tare, last_eight, is_waiting, is_empty, sampled, key_refusals, keyed, weigh_refusals, record_from, voided}
use Rattle.rules.specs.History.{Moment, History, answered, as_opening, as_sample, as_key, as_weigh, called, accepted, settings_then, eight_samples, before_samples, zero_after, zero_then, gross_then, tare_after, tare_then, LiesIn}
use Rattle.rules.specs.Promise.{Weighing, record_of, Stores}
use Rattle.rules.proofs.Histories.{moment, no_number_no_store, every_split, weighing_on, Cleared, Ends, ends_more, cleared_wider, cleared_on}
use Rattle.rules.proofs.Windows.{Windowed, windowed_none, windowed_as, windowed_more, samples_on, full_latest, all_accepted, mean_known, before_ends, before_fewer, before_on}
use Rattle.rules.proofs.Weighings.{TareFits, within_bounds, weighed_lawful}

-- ---- What the state rests on

-- a record to be stored: the last weighing's, of a load that came on after each store
pub record Pending (h : History) (r : Record) : Type 0 where
  pub weighing : Weighing h
  pub is : r ≡ record_of weighing
  pub cleared : Cleared (before_samples 8 weighing.split.before) h
  pub lawful_record : (n : ℕ) → 1 ≤ n → n < 2 ^ 32 → lawful (numbered n r) ≡ true

-- not waiting: since the last store the platform was empty, before the latest n samples
abbrev pub Standing : History → ℕ → State → Type 0
Standing h n waiting = Unit {0}
Standing h n ready = Cleared (before_samples n h) h
Standing h n (pending r) = Cleared (before_samples n h) h × Pending h r

-- it rests on the same after a moment that neither weighs nor stores
standing_on :
    (h : History) (m : Moment) (n k : ℕ) → Ends (before_samples n h) (before_samples k (m ∷ h)) → accepted as_weigh m ≡ None → (Stores m.event → ⊥)
    → (s : State) → Standing h n s → Standing (m ∷ h) k s
standing_on h m n k ends no_weigh no_store waiting s = tt
standing_on h m n k ends no_weigh no_store ready s = cleared_wider ends (cleared_on m no_store s)
standing_on h m n k ends no_weigh no_store (pending r) s = (
  cleared_wider ends (cleared_on m no_store s.0),
  record {
    weighing = weighing_on m (λ w. none_or_some None refl (sym no_weigh ∙ w.1)) s.1.weighing;
    is = s.1.is;
    cleared = cleared_on m no_store s.1.cleared;
    lawful_record = s.1.lawful_record;
  },
)

-- a weighing that is voided leaves the platform as it was
standing_voided : (h : History) (n : ℕ) (s : State) → Standing h n s → Standing h n (voided s)
standing_voided h n waiting s = s
standing_voided h n ready s = s
standing_voided h n (pending r) s = s.0

-- not waiting, the platform was empty
standing_cleared : (h : History) (n : ℕ) (s : State) → is_waiting s ≡ false → Standing h n s → Cleared (before_samples n h) h
standing_cleared h n waiting e s = absurd (true≢false e)
standing_cleared h n ready e s = s
standing_cleared h n (pending r) e s = s.0

-- ---- The indicator

-- what the indicator holds is what the list tells
pub record Shows (h : History) (i : Indicator) : Type 0 where
  pub passed : Passed i.settings
  pub settings : settings_then h ≡ Some i.settings
  pub zero_at : zero_then h ≡ i.zero_at
  pub tare : tare_then h ≡ i.tare
  pub tare_fits : TareFits i.settings.max i.tare
  pub window : Windowed h i.window
  pub state : Standing h (length window.latest) i.state

-- it is so after a moment that leaves the settings, the zero and the tare
shows_still :
    {h : History} {i : Indicator} (m : Moment) → settings_then (m ∷ h) ≡ settings_then h → zero_then (m ∷ h) ≡ zero_then h → tare_then (m ∷ h) ≡ tare_then h → Shows h i
    → {window : List ℤ} {state : State} (v : Windowed (m ∷ h) window) → Standing (m ∷ h) (length v.latest) state → Shows (m ∷ h) (with_state (with_window i window) state)
shows_still m settings_same zero_same tare_same s v standing = record {
  passed = s.passed;
  settings = settings_same ∙ s.settings;
  zero_at = zero_same ∙ s.zero_at;
  tare = tare_same ∙ s.tare;
  tare_fits = s.tare_fits;
  window = v;
  state = standing;
}

-- a moment that changes nothing of it
pub record Quiet (m : Moment) : Type 0 where
  pub no_opening : accepted as_opening m ≡ None
  pub no_sample : called as_sample m ≡ None
  pub no_key : accepted as_key m ≡ None
  pub no_weigh : accepted as_weigh m ≡ None
  pub no_store : Stores m.event → ⊥

-- after such a moment
pub shows_on : {h : History} {i : Indicator} (m : Moment) → Quiet m → Shows h i → Shows (m ∷ h) i
shows_on {h} {i} m q s =
    let n : ℕ = length s.window.latest in
    shows_still m (rw q.no_opening) (rw (q.no_opening, q.no_key)) (rw (q.no_opening, q.no_key)) s (windowed_as (m ∷ h) (samples_on m h q.no_sample) s.window)
    (standing_on h m n n (before_on n m h q.no_sample) q.no_weigh q.no_store i.state s.state)

-- after an opening
pub shows_opened : {h : History} (w : World) (s : Settings) → Passed s → Shows (moment w (answered (opening s) done) ∷ h) (fresh s)
shows_opened w s passed = record { passed = passed; settings = refl; zero_at = refl; tare = refl; tare_fits = tt; window = windowed_none _; state = tt }

-- ---- Samples

-- an accepted sample empties the window of a waiting terminal, or joins it
pub shows_sampled : {h : History} {i : Indicator} (w : World) (x : ℤ) → Shows h i → Shows (moment w (answered (sample x) done) ∷ h) (sampled i x)
shows_sampled {h} {i} w x s = cond_both (is_waiting i.state && is_empty i x) _ _ (Shows (m ∷ h)) on_empty on_load
  where
    m : Moment
    m = moment w (answered (sample x) done)

    on_empty : (is_waiting i.state && is_empty i x) ≡ true → Shows (m ∷ h) (with_window (with_state i ready) [])
    on_empty e = shows_still m refl refl refl s (windowed_none (m ∷ h)) (record {
      split = record { after = []; now = m; before = h; whole = refl };
      emptied = record {
        load = x;
        settings = i.settings;
        taken = refl;
        opened = s.settings;
        under = ap (λ z. lt_z (rounded (x -ℤ z)) (pos (min_of i.settings))) s.zero_at ∙ (and_parts (is_waiting i.state) (is_empty i x) e).1;
      };
      stores_before = every_split (λ after now before. Stores now.event → LiesIn h now before) m h (λ stores. absurd (no_number_no_store (sample x) done refl stores)) (λ y stores. (y, refl, refl));
    })

    on_load : (is_waiting i.state && is_empty i x) ≡ false → Shows (m ∷ h) (with_window i (last_eight (i.window ++ (x ∷ []))))
    on_load e =
        let n : ℕ = length s.window.latest in
        shows_still m refl refl refl s (windowed_more m x refl s.window) (standing_on h m n (suc n) ([], refl) refl (no_number_no_store (sample x) done refl) i.state s.state)

-- a sample out of range empties the window
pub shows_missed :
    {h : History} {i : Indicator} (w : World) (x : ℤ) (n place : ℕ) → Shows h i → Shows (moment w (answered (sample x) (refuses n place)) ∷ h) (with_window i [])
shows_missed {h} {i} w x n place s =
    let m : Moment = moment w (answered (sample x) (refuses n place)) in
    let k : ℕ = length s.window.latest in
    shows_still m refl refl refl s (windowed_none (m ∷ h))
    (standing_on h m k 0 (ends_more m (before_ends k h)) refl (no_number_no_store (sample x) (refuses n place) refl) i.state s.state)

-- ---- Keys

-- a settled window is full
settled_full : (i : Indicator) → not (is_settled i) ≡ false → length i.window ≡ 8
settled_full i e = eqb-true (length i.window) 8 (and_parts (eqb (length i.window) 8) (stable i.window) (not-false (is_settled i) e)).0

-- with a full window the gross weight is what the list tells
gross_known : {h : History} {i : Indicator} → Shows h i → length i.window ≡ 8 → gross_then h ≡ gross i
gross_known {h} {i} s full = ap (gross_of (eight_samples h)) s.zero_at ∙ ap (λ a. rounded (a -ℤ i.zero_at)) (sym (mean_known s.window full))

-- an accepted key sets the zero and the tare that the list tells
key_shows :
    {h : History} {i : Indicator} (w : World) (k : Key) (z : ℤ) (t : Tare) → zero_after k (mean (eight_samples h)) (zero_then h) ≡ z → tare_after k (gross_then h) (tare_then h) ≡ t
    → TareFits i.settings.max t → Shows h i → Shows (moment w (answered (key k) done) ∷ h) (with_tare (with_zero i z) t)
key_shows {h} {i} w k z t zero_is tare_is fits s =
    let m : Moment = moment w (answered (key k) done) in
    let n : ℕ = length s.window.latest in
    record {
      passed = s.passed;
      settings = s.settings;
      zero_at = zero_is;
      tare = tare_is;
      tare_fits = fits;
      window = windowed_as (m ∷ h) refl s.window;
      state = standing_on h m n n (before_on n m h refl) refl (no_number_no_store (key k) done refl) i.state s.state;
    }

-- after an accepted key
pub shows_keyed :
    {h : History} {i : Indicator} (w : World) (k : Key) → AllOf (λ x. x.holds ≡ false) (key_refusals i k) → Shows h i
    → Shows (moment w (answered (key k) done) ∷ h) (keyed i k)
shows_keyed {i = i} w set_zero passes s =
    key_shows w set_zero (mean i.window) i.tare (sym (mean_known s.window (settled_full i passes.1.1.0))) s.tare s.tare_fits s
shows_keyed {i = i} w take_tare passes s =
    key_shows w take_tare i.zero_at (weighed (nat_abs (gross i))) s.zero_at (ap (λ g. weighed (nat_abs g)) (gross_known s (settled_full i passes.1.1.0)))
    (within_bounds (gross i) i.settings.max passes.1.1.1.0) s
shows_keyed {i = i} w clear_tare passes s = key_shows w clear_tare i.zero_at no_tare s.zero_at refl tt s
shows_keyed {i = i} w (preset_tare v) passes s = key_shows w (preset_tare v) i.zero_at (preset (nat_abs v)) s.zero_at refl (within_bounds v i.settings.max passes.1.1.0) s

-- ---- Weighings

-- after an accepted weigh the record is pending
pub shows_weighed :
    {h : History} {i : Indicator} (w : World) (e : Entries) → e.day < 2 ^ 16 → AllOf (λ x. x.holds ≡ false) (weigh_refusals i e) → Shows h i
    → Shows (moment w (answered (weigh e) done) ∷ h) (with_state i (pending (record_from i.settings (gross i) i.tare e)))
shows_weighed {h} {i} w e day passes s =
    let m : Moment = moment w (answered (weigh e) done) in
    let n : ℕ = length s.window.latest in
    let full : length i.window ≡ 8 = settled_full i passes.1.1.1.1.1.0 in
    let cleared : Cleared (before_samples n h) (m ∷ h) = cleared_on m (no_number_no_store (weigh e) done refl) (standing_cleared h n i.state passes.1.1.1.1.0 s.state) in
    shows_still m refl refl refl s (windowed_as (m ∷ h) refl s.window) (
      cleared_wider (before_on n m h refl) cleared,
      record {
        weighing = record {
          split = record { after = []; now = m; before = h; whole = refl };
          last = tt;
          entries = e;
          weighed = refl;
          settings = i.settings;
          opened = s.settings;
          eight = all_accepted s.window full;
        };
        is = ap (λ g. record_from i.settings g i.tare e) (sym (gross_known s full)) ∙ ap (λ t. record_from i.settings (gross_then h) t e) (sym s.tare);
        cleared = cleared_wider (before_fewer 8 n h (full_latest s.window full)) cleared;
        lawful_record = weighed_lawful i e s.passed s.tare_fits day passes;
      },
    )

-- after a void it is not
pub shows_voided : {h : History} {i : Indicator} (w : World) → Shows h i → Shows (moment w (answered void done) ∷ h) (with_state i (voided i.state))
shows_voided {h} {i} w s =
    let m : Moment = moment w (answered void done) in
    let n : ℕ = length s.window.latest in
    shows_still m refl refl refl s (windowed_as (m ∷ h) refl s.window)
    (standing_voided (m ∷ h) n i.state (standing_on h m n n (before_on n m h refl) refl (no_number_no_store void done refl) i.state s.state))

-- after a store the terminal waits
pub shows_stored : {h : History} {i : Indicator} (w : World) (n : ℕ) → Shows h i → Shows (moment w (answered store (gives n)) ∷ h) (with_state i waiting)
shows_stored {h} w n s = let m : Moment = moment w (answered store (gives n)) in shows_still m refl refl refl s (windowed_as (m ∷ h) refl s.window) tt
