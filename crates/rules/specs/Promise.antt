-- The promise: what holds of the memory after any list of calls and power cuts
use Rattle.std.specs.Prelude.{◌≡◌, ℕ, ◌*◌, ◌^◌, ◌<◌, ◌≤◌, true, [], ◌∷◌, map, take, replicate, None, Some}
use Rattle.rules.specs.Lists.{AllOf, NoneOf}
use Rattle.rules.specs.Records.{Record, lawful, numbered}
use Rattle.rules.specs.Rows.{packing, blank_row}
use Rattle.rules.specs.Memory.{Rows, row_at, next_row, released_pages, disorder}
use Rattle.rules.specs.Settings.{Settings, Passed}
use Rattle.rules.specs.Terminal.{On, World, Entries, Releasing, Call, opening, sample, key, weigh, store, void, print, verify, release, Answer, gives, record_from, acts}
use Rattle.rules.specs.Cuts.{ProgramCut, EraseCut}
use Rattle.rules.specs.History.{Event, answered, cut_in_store, cut_in_release, switched_off, Moment, History, as_weigh, accepted, released, settings_then, samples_sent, before_samples, gross_then, tare_then, Split, LiesIn, Emptied}

-- ---- Runs: lists of calls and cuts, from a blank medium

-- the calls that can be made, with the arguments that their types hold: with no power, only an opening
abbrev pub Callable : World → Call → Type 0
Callable w (opening s) = Passed s
Callable w (sample x) = On w
Callable w (key k) = On w
Callable w (weigh e) = On w × (e.day < 2 ^ 16)
Callable w store = On w
Callable w void = On w
Callable w (print n room) = On w
Callable w (verify line) = On w
Callable w (release r) = On w × (r.day < 2 ^ 16) × (r.today < 2 ^ 16)

-- the world with no power: all but the rows is lost
abbrev pub dark : Rows → World
dark rows = record { rows = rows; writes = 0; on = None }

-- 2 to 64 pages of blank rows
pub record BlankMedium (rows : Rows) : Type 0 where
  pub pages : ℕ
  pub low : 2 ≤ pages
  pub high : pages ≤ 64
  pub blank : rows ≡ replicate (16 * pages) blank_row

-- a run leads to a world by a list of moments: from a blank medium with no power, by calls, cuts inside an accepted store or release, and other cuts, which change no row
pub data Run : History → World → Type 0 where
  start : {rows : Rows} → BlankMedium rows → Run [] (dark rows)
  call :
      {h : History} {w after : World} {c : Call} {a : Answer} → Run h w → Callable w c → acts c w ≡ (a, after)
      → Run (record { before = w; event = answered c a } ∷ h) after
  store_cut :
      {h : History} {w after : World} {n row : ℕ} {left : Rows}
      → Run h w → acts store w ≡ (gives n, after) → next_row w.rows ≡ Some row → ProgramCut w.rows row (row_at after.rows row) left
      → Run (record { before = w; event = cut_in_store } ∷ h) (dark left)
  release_cut :
      {h : History} {w after : World} {n : ℕ} {r : Releasing} {left : Rows}
      → Run h w → Callable w (release r) → acts (release r) w ≡ (gives n, after) → EraseCut w.rows (released_pages w.rows r.day) left
      → Run (record { before = w; event = cut_in_release r } ∷ h) (dark left)
  off : {h : History} {w : World} → Run h w → Run (record { before = w; event = switched_off } ∷ h) (dark w.rows)

-- ---- Records and where they come from

-- a record is found where a row is its packing
pub record Found (rows : Rows) (row : ℕ) (r : Record) : Type 0 where
  pub lawful_record : lawful r ≡ true
  pub packed : row_at rows row ≡ packing r

-- an accepted weigh
abbrev pub Weighs : Moment → Type 0
Weighs m = (e : Entries) × (accepted as_weigh m ≡ Some e)

-- the last accepted weigh of a list, with the settings then, after eight accepted samples
pub record Weighing (h : History) : Type 0 where
  pub split : Split h
  pub last : NoneOf Weighs split.after
  pub entries : Entries
  pub weighed : accepted as_weigh split.now ≡ Some entries
  pub settings : Settings
  pub opened : settings_then split.before ≡ Some settings
  pub eight : map (λ s. s.1) (take 8 (samples_sent split.before)) ≡ replicate 8 true

-- the record of a weighing: what the settings, zero and tare then, the eight samples and the entries make
abbrev pub record_of : {h : History} → Weighing h → Record
record_of w = record_from w.settings (gross_then w.split.before) (tare_then w.split.before) w.entries

-- an acknowledged store, or one in which power failed
abbrev pub Stores : Event → Type 0
Stores (answered c a) = (n : ℕ) × (c ≡ store) × (a ≡ gives n)
Stores cut_in_store = Unit {0}
Stores (cut_in_release r) = ⊥
Stores switched_off = ⊥

-- a store, acknowledged or cut, that programs the row
pub record Programs (row : ℕ) (m : Moment) : Type 0 where
  pub stores : Stores m.event
  pub place : next_row m.before.rows ≡ Some row

-- the last store to program a row, and its weighing
pub record StoreOf (row : ℕ) (h : History) : Type 0 where
  pub split : Split h
  pub programs : Programs row split.now
  pub last : NoneOf (Programs row) split.after
  pub weighing : Weighing split.before

-- ---- The promise

-- of the rows that a list of calls and cuts leads to
pub record Kept (h : History) (rows : Rows) : Type 0 where
  -- each acknowledged record that is dated on or after the day of each later release is in exactly one row
  pub acknowledged_stay :
      (x : Split h) (n : ℕ) → x.now.event ≡ answered store (gives n)
      → (w : Weighing x.before) × (AllOf (λ m. (r : Releasing) → released m ≡ Some r → r.day ≤ w.entries.day) x.after
      → (row : ℕ) × Found rows row (numbered n (record_of w)) × ((other : ℕ) → Found rows other (numbered n (record_of w)) → other ≡ row))
  -- each record found was acknowledged, or power failed inside its store; it is what was weighed, with the number that was acknowledged
  pub found_were_weighed :
      (row : ℕ) (r : Record) → Found rows row r
      → (s : StoreOf row h) × (r ≡ numbered r.number (record_of s.weighing))
      × ((n : ℕ) → s.split.now.event ≡ answered store (gives n) → r.number ≡ n)
  -- along the round numbers rise and stamps never fall
  pub in_order : disorder rows ≡ None
  -- a later acknowledged record has a larger number, whatever was released
  pub numbers_rise :
      (x : Split h) (y : Split x.before) (n k : ℕ) → x.now.event ≡ answered store (gives n) → y.now.event ≡ answered store (gives k) → k < n
  -- no two rows hold records with one number
  pub numbers_differ : (row other : ℕ) (r q : Record) → Found rows row r → Found rows other q → r.number ≡ q.number → row ≡ other
  -- between the store of one record and the eight samples of a later one, the platform was empty
  pub each_load_once :
      (row other : ℕ) (r q : Record) → Found rows row r → Found rows other q → r.number < q.number → (early : StoreOf row h) (late : StoreOf other h)
      → (x : Split (before_samples 8 late.weighing.split.before)) × Emptied x × LiesIn x.before early.split.now early.split.before

-- the law over runs
abbrev pub KeepsRecords : Type 0
KeepsRecords = (h : History) (w : World) → Run h w → Kept h w.rows
