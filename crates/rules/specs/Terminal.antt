-- The terminal over its memory: its state, its calls, and what each call answers and does
use Rattle.std.specs.Prelude.{◌≡◌, ℕ, ◌+◌, ◌-◌, ◌*◌, ◌%◌, ◌^◌, Bool, true, false, cond, not, ◌&&◌, ◌||◌, List, [], ◌∷◌, ◌++◌, map, length, take, drop, ℤ, pos, negsuc, ◌-ℤ◌, ◌==◌, int_le, int_lt, nat_le, nat_lt, slice_set, unsigned_abs, Option, None, Some}
use Rattle.rules.specs.Lists.{when_some, number_of}
use Rattle.rules.specs.Loads.{mean, rounded, gross_of, stable}
use Rattle.rules.specs.Settings.{Settings, min_of}
use Rattle.rules.specs.Records.{Record, lawful_mark, typed_mark, unnumbered, numbered, earlier}
use Rattle.rules.specs.Rows.{packing}
use Rattle.rules.specs.Tickets.{ticket}
use Rattle.rules.specs.Memory.{Rows, newest, disorder, find, next_row, next_number, released_pages, erased}
use Rattle.rules.specs.Media.{one_more}

-- ---- State

-- a tare in intervals, weighed or set by hand
pub data Tare : Type 0 where
  no_tare : Tare
  weighed preset : ℕ → Tare

-- the kind and the value that a record has
abbrev pub tare_kind : Tare → ℕ
tare_kind no_tare = 0
tare_kind (weighed v) = 1
tare_kind (preset v) = 2

abbrev pub tare_value : Tare → ℕ
tare_value no_tare = 0
tare_value (weighed v) = v
tare_value (preset v) = v

-- waiting for an empty platform, ready to weigh, or pending: a record is to be stored
pub data State : Type 0 where
  waiting ready : State
  pending : Record → State

-- the zero in tenths; the samples of the window in tenths, oldest first
pub record Indicator : Type 0 where
  pub settings : Settings
  pub zero_at : ℤ
  pub tare : Tare
  pub window : List ℤ
  pub state : State

-- the memory, its count of writes since power came, and the indicator while there is power
pub record World : Type 0 where
  pub rows : Rows
  pub writes : ℕ
  pub on : Option Indicator

-- there is power
abbrev pub On : World → Type 0
On w = (i : Indicator) × (w.on ≡ Some i)

-- ---- Calls

pub data Key : Type 0 where
  set_zero take_tare clear_tare : Key
  preset_tare : ℤ → Key

-- what is entered with a weighing; the mark as the bytes that were typed
pub record Entries : Type 0 where
  pub day : ℕ
  pub minute : ℕ
  pub mark : List ℕ
  pub unit_price : ℕ

-- what a release is asked for: the day from which records stay, today, and perhaps a keeping time in days
pub record Releasing : Type 0 where
  pub day : ℕ
  pub today : ℕ
  pub keep : Option ℕ

-- the calls; a print has a record's number, and how many bytes its buffer has
pub data Call : Type 0 where
  opening : Settings → Call
  sample : ℤ → Call
  key : Key → Call
  weigh : Entries → Call
  store void : Call
  print : (number room : ℕ) → Call
  verify : List ℕ → Call
  release : Releasing → Call

-- done; a record's number or a count of pages; a ticket line; or a refusal, by its number and its place
pub data Answer : Type 0 where
  done : Answer
  gives : ℕ → Answer
  prints : List ℕ → Answer
  refuses : (number place : ℕ) → Answer

-- ---- Refusals: of a call's table, the first that holds

pub record Refusal : Type 0 where
  pub holds : Bool
  pub number : ℕ
  pub place : ℕ

infix 80 ◌when◌ ◌at_any◌
-- refusal n when b, with no place
abbrev pub ◌when◌ : ℕ → Bool → Refusal
n when b = record { holds = b; number = n; place = 0 }

-- refusal n at a place, where there is such a place
abbrev pub ◌at_any◌ : ℕ → Option ℕ → Refusal
n at_any place = record { holds = when_some place false (λ i. true); number = n; place = when_some place 0 (λ i. i) }

-- the result, unless one of these holds: then the first of them is the answer, and w stays as it is
abbrev pub unless : {W : Type 0} → List Refusal → W → Answer × W → Answer × W
unless [] w result = result
unless (x ∷ xs) w result = cond x.holds (refuses x.number x.place, w) (unless xs w result)

-- ---- The indicator

abbrev pub is_waiting : State → Bool
is_waiting waiting = true
is_waiting s = false

abbrev pub is_pending : State → Bool
is_pending (pending r) = true
is_pending s = false

abbrev pub is_tared : Tare → Bool
is_tared t = not (tare_kind t == 0)

-- the window is full and stable
abbrev pub is_settled : Indicator → Bool
is_settled i = length i.window == 8 && stable i.window

-- the gross weight in intervals
abbrev pub gross : Indicator → ℤ
gross i = gross_of i.window i.zero_at

-- the net weight in intervals
abbrev pub net : Indicator → ℤ
net i = gross i -ℤ pos (tare_value i.tare)

-- as an opening leaves it
abbrev pub fresh : Settings → Indicator
fresh s = record { settings = s; zero_at = pos 0; tare = no_tare; window = []; state = waiting }

-- the indicator with another window, state, zero or tare
abbrev pub with_window : Indicator → List ℤ → Indicator
with_window i window = record { settings = i.settings; zero_at = i.zero_at; tare = i.tare; window = window; state = i.state }

abbrev pub with_state : Indicator → State → Indicator
with_state i state = record { settings = i.settings; zero_at = i.zero_at; tare = i.tare; window = i.window; state = state }

abbrev pub with_zero : Indicator → ℤ → Indicator
with_zero i zero_at = record { settings = i.settings; zero_at = zero_at; tare = i.tare; window = i.window; state = i.state }

abbrev pub with_tare : Indicator → Tare → Indicator
with_tare i tare = record { settings = i.settings; zero_at = i.zero_at; tare = tare; window = i.window; state = i.state }

-- the loads that a sample may have: at most 200,000 tenths either way
abbrev pub in_range : ℤ → Bool
in_range x = int_le (negsuc 199999) x && int_le x (pos 200000)

-- the platform is empty: less the zero, the load rounds to under the smallest load
abbrev pub is_empty : Indicator → ℤ → Bool
is_empty i x = int_lt (rounded (x -ℤ i.zero_at)) (pos (min_of i.settings))

abbrev pub last_eight : List ℤ → List ℤ
last_eight xs = drop (length xs - 8) xs

-- after an accepted sample: an empty platform makes a waiting terminal ready and empties the window, any other sample joins the window
abbrev pub sampled : Indicator → ℤ → Indicator
sampled i x = cond (is_waiting i.state && is_empty i x) (with_window (with_state i ready) []) (with_window i (last_eight (i.window ++ (x ∷ []))))

abbrev pub key_refusals : Indicator → Key → List Refusal
key_refusals i set_zero =
    8 when is_pending i.state ∷ 9 when is_tared i.tare ∷ 10 when not (is_settled i)
    ∷ 11 when nat_lt i.settings.max (5 * unsigned_abs (mean i.window)) ∷ []
key_refusals i take_tare =
    8 when is_pending i.state ∷ 9 when is_tared i.tare ∷ 10 when not (is_settled i)
    ∷ 12 when (int_lt (gross i) (pos 1) || int_lt (pos i.settings.max) (gross i)) ∷ []
key_refusals i clear_tare = 8 when is_pending i.state ∷ []
key_refusals i (preset_tare v) = 8 when is_pending i.state ∷ 9 when is_tared i.tare ∷ 12 when (int_lt v (pos 1) || int_lt (pos i.settings.max) v) ∷ []

-- after an accepted key
abbrev pub keyed : Indicator → Key → Indicator
keyed i set_zero = with_zero i (mean i.window)
keyed i take_tare = with_tare i (weighed (unsigned_abs (gross i)))
keyed i clear_tare = with_tare i no_tare
keyed i (preset_tare v) = with_tare i (preset (unsigned_abs v))

abbrev pub weigh_refusals : Indicator → Entries → List Refusal
weigh_refusals i e =
    13 when nat_lt 1439 e.minute ∷ 14 when not (lawful_mark (typed_mark e.mark)) ∷ 15 when nat_lt 1000000 e.unit_price
    ∷ 8 when is_pending i.state ∷ 16 when is_waiting i.state ∷ 10 when not (is_settled i)
    ∷ 17 when int_lt (gross i) (pos (min_of i.settings)) ∷ 18 when int_lt (pos (i.settings.max + 9)) (gross i) ∷ 19 when int_lt (net i) (pos 1) ∷ []

-- the record of a weighing, from the settings, the gross weight, the tare and the entries
abbrev pub record_from : Settings → ℤ → Tare → Entries → Record
record_from s g t e = unnumbered s.interval (unsigned_abs g) (tare_kind t) (tare_value t) e.day e.minute e.unit_price (typed_mark e.mark)

-- the state after a void
abbrev pub voided : State → State
voided (pending r) = ready
voided s = s

-- the state after an accepted store
abbrev pub after_store : State → State
after_store (pending r) = waiting
after_store s = s

-- ---- The store

-- there is no next row
abbrev pub is_full : Rows → Bool
is_full rows = when_some (next_row rows) true (λ i. false)

abbrev pub store_refusals : Rows → Record → List Refusal
store_refusals rows r =
    21 at_any disorder rows ∷ 22 when when_some (newest rows) false (λ n. earlier r n.1)
    ∷ 23 when nat_lt 4294967295 (next_number rows) ∷ 24 when is_full rows ∷ []

-- the memory with the record in its next row
abbrev pub with_record : Rows → Record → Rows
with_record rows r = when_some (next_row rows) rows (λ i. slice_set rows i (packing (numbered (next_number rows) r)))

-- what a store answers and leaves, by the state of the indicator
abbrev pub stored : World → Indicator → State → Answer × World
stored w i (pending r) =
    unless (store_refusals w.rows r) w
    (gives (next_number w.rows), record { rows = with_record w.rows r; writes = one_more w.writes; on = Some (with_state i waiting) })
stored w i s = (refuses 20 0, w)

-- whether no intact record has that number
abbrev pub is_missing : Rows → ℕ → Bool
is_missing rows n = when_some (find rows n) true (λ r. false)

-- the ticket line of the record with that number
abbrev pub line_of : Rows → ℕ → List ℕ
line_of rows n = when_some (find rows n) [] ticket

abbrev pub print_refusals : Rows → (number room : ℕ) → List Refusal
print_refusals rows n room = 25 when nat_lt room 76 ∷ 21 at_any disorder rows ∷ 26 when is_missing rows n ∷ []

-- what a buffer holds after a print: the line, and the bytes behind it as they were; any other answer leaves all as it was
abbrev pub buffer_after : Answer → (before : List ℕ) → List ℕ
buffer_after (prints line) before = line ++ drop 76 before
buffer_after a before = before

abbrev pub all_digits : List ℕ → Bool
all_digits [] = true
all_digits (c ∷ cs) = (nat_le 48 c && nat_le c 57) && all_digits cs

-- the number that digits write
abbrev pub written : List ℕ → ℕ
written text = number_of 10 0 (map (λ c. c - 48) text)

-- the number that the first ten characters of a line write
abbrev pub number_in : List ℕ → ℕ
number_in line = written (take 10 line)

-- the first place, counted from k, at which two lines differ
abbrev pub difference : ℕ → List ℕ → List ℕ → Option ℕ
difference k [] [] = None
difference k [] (y ∷ ys) = Some k
difference k (x ∷ xs) [] = Some k
difference k (x ∷ xs) (y ∷ ys) = cond (x == y) (difference (k + 1) xs ys) (Some k)

abbrev pub verify_refusals : Rows → List ℕ → List Refusal
verify_refusals rows line =
    27 when not (length line == 76 && all_digits (take 10 line)) ∷ 21 at_any disorder rows ∷ 26 when is_missing rows (number_in line)
    ∷ 28 at_any difference 0 line (line_of rows (number_in line)) ∷ []

-- 90 days if none is given
abbrev pub keeping_time : Releasing → ℕ
keeping_time r = when_some r.keep 90 (λ k. k)

abbrev pub release_refusals : Rows → Releasing → List Refusal
release_refusals rows r =
    29 when (nat_lt (keeping_time r) 90 || nat_lt 400 (keeping_time r)) ∷ 21 at_any disorder rows
    ∷ 30 when when_some (newest rows) false (λ n. nat_lt r.today n.1.day)
    ∷ 31 when nat_lt r.today (r.day + keeping_time r) ∷ []

-- ---- What each call answers, and the world that it leaves

-- a call that needs power; with none it cannot be made, and what stands here for its answer is never seen
abbrev pub while_on : World → (Indicator → Answer × World) → Answer × World
while_on w f = when_some w.on (refuses 0 0, w) f

-- the world with another indicator
abbrev pub with_indicator : World → Indicator → World
with_indicator w i = record { rows = w.rows; writes = w.writes; on = Some i }

-- the answer to a call, and the world after it
abbrev pub acts : Call → World → Answer × World
acts (opening s) w = (done, with_indicator w (fresh s))
acts (sample x) w = while_on w (λ i. cond (in_range x) (done, with_indicator w (sampled i x)) (refuses 7 0, with_indicator w (with_window i [])))
acts (key k) w = while_on w (λ i. unless (key_refusals i k) w (done, with_indicator w (keyed i k)))
acts (weigh e) w =
    while_on w (λ i. unless (weigh_refusals i e) w (done, with_indicator w (with_state i (pending (record_from i.settings (gross i) i.tare e)))))
acts store w = while_on w (λ i. stored w i i.state)
acts void w = while_on w (λ i. (done, with_indicator w (with_state i (voided i.state))))
acts (print n room) w = while_on w (λ i. unless (print_refusals w.rows n room) w (prints (line_of w.rows n), w))
acts (verify line) w = while_on w (λ i. unless (verify_refusals w.rows line) w (done, w))
acts (release r) w =
    while_on w (λ i. unless (release_refusals w.rows r) w
    (let ps : List ℕ = released_pages w.rows r.day in
    (gives (length ps), record { rows = erased w.rows ps; writes = (w.writes + length ps) % 2 ^ 32; on = w.on })))
