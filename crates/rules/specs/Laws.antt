-- What the definitions come to, each in the words of the subject
use Rattle.std.specs.Prelude.{◌≡◌, ℕ, ◌+◌, ◌-◌, ◌*◌, ◌%◌, ◌<◌, ◌≤◌, true, false, ◌⊎◌, List, [], ◌∷◌, ◌++◌, map, length, take, ℤ, pos, ◌-ℤ◌, ◌*ℤ◌, ◌≤ℤ◌, ◌≢◌, slice_index, unsigned_abs, Option, None, Some}
use Rattle.rules.specs.Lists.{joined, Among, AllOf}
use Rattle.rules.specs.Loads.{nearest, stable, kg_of, price_of}
use Rattle.rules.specs.Settings.{Settings, Passed, passed, checked}
use Rattle.rules.specs.Records.{Record, lawful, numbered, earlier}
use Rattle.rules.specs.Rows.{packing, read_row, blank_row, intact, judged}
use Rattle.rules.specs.Tickets.{ticket}
use Rattle.rules.specs.Memory.{Rows, row_at, page_of, rows_of, newest, round, disorder, next_row, next_number, released_pages, erased}
use Rattle.rules.specs.Terminal.{pending, Indicator, World, On, store, print, verify, done, gives, prints, with_record, acts}
use Rattle.rules.specs.Cuts.{Mixed, ProgramCut, EraseCut}
use Rattle.rules.specs.Promise.{BlankMedium, Found}
use Rattle.rules.specs.Trace.{trace_limit, lines, Kind, Command, to_begin, command_of}
use Rattle.rules.specs.Replay.{trace_writes}

-- ---- Loads and prices

-- of the whole numbers of parts of size d, q is nearest to z; of two that are equally near it is the one farther from zero
pub record Nearest (d : ℕ) (z q : ℤ) : Type 0 where
  pub near : 2 * unsigned_abs (z -ℤ pos d *ℤ q) ≤ d
  pub ties_away : 2 * unsigned_abs (z -ℤ pos d *ℤ q) ≡ d → unsigned_abs z < unsigned_abs (pos d *ℤ q)

-- so it is rounded, to parts of an even size, as 8 samples or 10 tenths, and only one whole number is such
abbrev pub RoundsToNearest : Type 0
RoundsToNearest = (d : ℕ) → 0 < d → d % 2 ≡ 0 → (z : ℤ) → Nearest d z (nearest d z) × ((q : ℤ) → Nearest d z q → q ≡ nearest d z)

-- a price is at most half a cent too high, and less than half a cent too low
abbrev pub PricesToNearest : Type 0
PricesToNearest = (kg unit_price : ℕ) → (1000 * price_of kg unit_price ≤ kg * unit_price + 500) × (kg * unit_price < 1000 * price_of kg unit_price + 500)

-- of any two samples, neither exceeds the other by more than 5 tenths
abbrev pub WithinFive : List ℤ → Type 0
WithinFive window = (x y : ℤ) → Among x window → Among y window → (x -ℤ y) ≤ℤ pos 5

-- that is what stable says
abbrev pub StableIsWithinFive : Type 0
StableIsWithinFive = (window : List ℤ) → (stable window ≡ true → WithinFive window) × (WithinFive window → stable window ≡ true)

-- ---- Settings

-- the settings that these plain numbers ask for, and they are good
pub record AskedFor (class kg max : ℕ) (s : Settings) : Type 0 where
  pub good : Passed s
  pub class_is : s.class ≡ class
  pub interval_is : kg_of s.interval ≡ kg
  pub max_is : s.max ≡ max

-- the check passes those, and no other
abbrev pub CheckPassesGoodSettings : Type 0
CheckPassesGoodSettings =
    (class kg max : ℕ) (s : Settings) → (checked class kg max ≡ passed s → AskedFor class kg max s) × (AskedFor class kg max s → checked class kg max ≡ passed s)

-- ---- Rows

-- a packed row reads back
abbrev pub PackedRowsRead : Type 0
PackedRowsRead = (r : Record) → lawful r ≡ true → read_row (packing r) ≡ Some r

-- a row that reads as a record is its packing, and the record is lawful
abbrev pub ReadRowsArePacked : Type 0
ReadRowsArePacked = (row : List ℕ) (r : Record) → read_row row ≡ Some r → (lawful r ≡ true) × (row ≡ packing r)

-- one row is the packing of one lawful record
abbrev pub PackingsDiffer : Type 0
PackingsDiffer = (r q : Record) → lawful r ≡ true → lawful q ≡ true → packing r ≡ packing q → r ≡ q

-- a row that wears from a packing, each bit as it was or one, is that packing still or is not intact
abbrev pub WornRowsAreWhole : Type 0
WornRowsAreWhole =
    (q r : Record) (row : List ℕ) → lawful q ≡ true → Mixed blank_row (packing q) row → read_row row ≡ Some r → (r ≡ q) × (row ≡ packing q)

abbrev pub BlankRowsAreNotIntact : Type 0
BlankRowsAreNotIntact = read_row blank_row ≡ None

-- the judge finds a record in an intact row, and in no other
abbrev pub JudgeFindsIntactRows : Type 0
JudgeFindsIntactRows = (row : List ℕ) (r : Record) → (judged row ≡ intact r → read_row row ≡ Some r) × (read_row row ≡ Some r → judged row ≡ intact r)

-- ---- The memory

-- a record that is found, with the largest number, in the lowest row among equals
pub record IsNewest (rows : Rows) (i : ℕ) (r : Record) : Type 0 where
  pub found : Found rows i r
  pub most : (j : ℕ) (q : Record) → Found rows j q → (q.number < r.number) ⊎ ((q.number ≡ r.number) × (i ≤ j))

-- that is the newest record, and there is none only where no record is found
abbrev pub NewestIsLargest : Type 0
NewestIsLargest =
    (rows : Rows) → ((i : ℕ) (r : Record) → newest rows ≡ Some (i, r) → IsNewest rows i r)
    × ((i : ℕ) (r : Record) → IsNewest rows i r → newest rows ≡ Some (i, r))
    × (newest rows ≡ None → (i : ℕ) (r : Record) → Found rows i r → ⊥)

-- in a list i comes before j
abbrev pub ComesBefore : List ℕ → (i j : ℕ) → Type 0
ComesBefore [] i j = ⊥
ComesBefore (k ∷ ks) i j = ((i ≡ k) × Among j ks) ⊎ ComesBefore ks i j

-- along the round numbers strictly rise and stamps never fall
abbrev pub RisesAlongRound : Rows → Type 0
RisesAlongRound rows =
    (i j : ℕ) (r q : Record) → ComesBefore (joined (map rows_of (round rows))) i j → Found rows i r → Found rows j q
    → (r.number < q.number) × (earlier q r ≡ false)

-- that is what in order means
abbrev pub OrderIsRising : Type 0
OrderIsRising = (rows : Rows) → (disorder rows ≡ None → RisesAlongRound rows) × (RisesAlongRound rows → disorder rows ≡ None)

-- whole pages, and in order
pub record Orderly (rows : Rows) : Type 0 where
  pub pages : ℕ
  pub whole : length rows ≡ 16 * pages
  pub in_order : disorder rows ≡ None

-- then no two rows hold records with one number
abbrev pub NumbersDiffer : Type 0
NumbersDiffer = (rows : Rows) → Orderly rows → (i j : ℕ) (r q : Record) → Found rows i r → Found rows j q → r.number ≡ q.number → i ≡ j

-- the first free row of a page: from it on the page is blank, and the row before it in the page is not
pub record IsFree (rows : Rows) (page row : ℕ) : Type 0 where
  pub in_page : page_of row ≡ page
  pub blank : (j : ℕ) → row ≤ j → page_of j ≡ page → row_at rows j ≡ blank_row
  pub first : (k : ℕ) → k + 1 ≡ row → page_of k ≡ page → row_at rows k ≢ blank_row

-- the next row: the first free row of the newest record's page; where that has none, or there is no newest, that of the first page of the round, if no record is found there
pub data IsNext (rows : Rows) (row : ℕ) : Type 0 where
  behind_newest : (i : ℕ) (r : Record) → newest rows ≡ Some (i, r) → IsFree rows (page_of i) row → IsNext rows row
  in_first_page :
      (page : ℕ) (others : List ℕ) → round rows ≡ page ∷ others
      → ((i : ℕ) (r : Record) → newest rows ≡ Some (i, r) → (k : ℕ) → IsFree rows (page_of i) k → ⊥)
      → ((i : ℕ) (r : Record) → page_of i ≡ page → Found rows i r → ⊥) → IsFree rows page row → IsNext rows row

-- that is the next row
abbrev pub NextRowIsNext : Type 0
NextRowIsNext = (rows : Rows) (row : ℕ) → (next_row rows ≡ Some row → IsNext rows row) × (IsNext rows row → next_row rows ≡ Some row)

-- it is a row of the memory, and blank
abbrev pub NextRowIsBlank : Type 0
NextRowIsBlank = (rows : Rows) (row : ℕ) → next_row rows ≡ Some row → (row < length rows) × (row_at rows row ≡ blank_row)

-- a record that may be stored next: it is lawful under the next number, and its stamp is not earlier than that of the newest record, if there is one
pub record MayFollow (rows : Rows) (r : Record) : Type 0 where
  pub lawful_record : lawful (numbered (next_number rows) r) ≡ true
  pub stamp : (i : ℕ) (q : Record) → newest rows ≡ Some (i, q) → earlier r q ≡ false

-- its store leaves the memory in order
abbrev pub StoreKeepsOrder : Type 0
StoreKeepsOrder = (rows : Rows) (r : Record) → Orderly rows → MayFollow rows r → Orderly (with_record rows r)

-- and so does a cut inside that store
abbrev pub CutStoreKeepsOrder : Type 0
CutStoreKeepsOrder =
    (rows left : Rows) (r : Record) (row : ℕ) → Orderly rows → MayFollow rows r → next_row rows ≡ Some row
    → ProgramCut rows row (packing (numbered (next_number rows) r)) left → Orderly left

-- a release for this day does not stop before the page: no record in it is dated on or after the day, nor is it the newest record's page
pub record PassesPage (rows : Rows) (day page : ℕ) : Type 0 where
  pub old : (i : ℕ) (r : Record) → page_of i ≡ page → Found rows i r → r.day < day
  pub not_newest : (i : ℕ) (r : Record) → newest rows ≡ Some (i, r) → page_of i ≢ page

-- a page of the round that is not blank, and the release stops neither before it nor before any page that comes earlier
pub record IsReleased (rows : Rows) (day page : ℕ) : Type 0 where
  pub before : List ℕ
  pub after : List ℕ
  pub in_round : round rows ≡ before ++ (page ∷ after)
  pub passed : AllOf (PassesPage rows day) before
  pub passes : PassesPage rows day page
  pub not_blank : (row : ℕ) × (page_of row ≡ page) × (row_at rows row ≢ blank_row)

-- those pages, and no other, are erased
abbrev pub ReleasesOldPages : Type 0
ReleasesOldPages =
    (rows : Rows) (day page : ℕ) → (Among page (released_pages rows day) → IsReleased rows day page)
    × (IsReleased rows day page → Among page (released_pages rows day))

-- of the rows of these pages an erase leaves blank ones, and all others as they were
abbrev pub ErasesWholePages : Type 0
ErasesWholePages =
    (rows : Rows) (ps : List ℕ) (i : ℕ) → i < length rows
    → (Among (page_of i) ps → row_at (erased rows ps) i ≡ blank_row) × ((Among (page_of i) ps → ⊥) → row_at (erased rows ps) i ≡ row_at rows i)

-- a release, for whatever day, leaves the memory in order, and the newest record in its row
abbrev pub ReleaseKeepsOrder : Type 0
ReleaseKeepsOrder =
    (rows : Rows) (day : ℕ) → Orderly rows
    → Orderly (erased rows (released_pages rows day)) × (newest (erased rows (released_pages rows day)) ≡ newest rows)

-- each row is worn from a packing: each bit is one, or as in the packing of some lawful record; a blank row is worn from any packing
abbrev pub WornFromPackings : Rows → Type 0
WornFromPackings rows = (i : ℕ) → i < length rows → (q : Record) × (lawful q ≡ true) × Mixed blank_row (packing q) (row_at rows i)

-- where that is so, a cut inside a release does the same; elsewhere a row that is not intact could become so when just some of its zeros are erased
abbrev pub CutReleaseKeepsOrder : Type 0
CutReleaseKeepsOrder =
    (rows left : Rows) (day : ℕ) → Orderly rows → WornFromPackings rows → EraseCut rows (released_pages rows day) left
    → Orderly left × (newest left ≡ newest rows)

-- ---- Ticket lines

abbrev pub LinesHave76Bytes : Type 0
LinesHave76Bytes = (r : Record) → lawful r ≡ true → length (ticket r) ≡ 76

-- some record that is found has this line
abbrev pub HasLine : Rows → List ℕ → Type 0
HasLine rows line = (row : ℕ) × (r : Record) × Found rows row r × (line ≡ ticket r)

-- verify accepts a line exactly when it is the line of a record that is found
abbrev pub VerifiesWhatIsFound : Type 0
VerifiesWhatIsFound =
    (w : World) → On w → Orderly w.rows → (line : List ℕ)
    → ((acts (verify line) w).0 ≡ done → HasLine w.rows line) × (HasLine w.rows line → (acts (verify line) w).0 ≡ done)

-- no two records that are found have one line
abbrev pub LinesDiffer : Type 0
LinesDiffer =
    (rows : Rows) → Orderly rows → (i j : ℕ) (r q : Record) → Found rows i r → Found rows j q → ticket r ≡ ticket q → (i ≡ j) × (r ≡ q)

-- by its number a record that is found is printed, where there is room for its line, and verify confirms that line; neither changes anything
abbrev pub PrintsWhatIsFound : Type 0
PrintsWhatIsFound =
    (w : World) → On w → Orderly w.rows → (row : ℕ) (r : Record) → Found w.rows row r
    → ((room : ℕ) → 76 ≤ room → acts (print r.number room) w ≡ (prints (ticket r), w)) × (acts (verify (ticket r)) w ≡ (done, w))

-- ---- The first store

-- on a blank medium the pending record is stored in row 0 under number 1, and no other row changes
abbrev pub FirstStoreIsAccepted : Type 0
FirstStoreIsAccepted =
    (w : World) (i : Indicator) (r : Record) → BlankMedium w.rows → w.on ≡ Some i → i.state ≡ pending r → lawful (numbered 1 r) ≡ true
    → ((acts store w).0 ≡ gives 1) × Found (acts store w).1.rows 0 (numbered 1 r)
    × ((k : ℕ) → 0 < k → row_at (acts store w).1.rows k ≡ row_at w.rows k)

-- ---- Traces

-- the lines of a trace, one after another, are the trace
abbrev pub LinesAreTheTrace : Type 0
LinesAreTheTrace = (trace : List ℕ) → joined (lines trace) ≡ trace

-- a line is not empty, and has a line feed at its end or nowhere
pub record IsLine (line : List ℕ) : Type 0 where
  pub not_empty : 0 < length line
  pub feed_last : (k : ℕ) → k + 1 < length line → slice_index line k ≢ 10

-- each of these is a line, and each but the last has its line feed
abbrev pub AreLines : List (List ℕ) → Type 0
AreLines [] = Unit {0}
AreLines (l ∷ []) = IsLine l
AreLines (l ∷ (m ∷ ls)) = IsLine l × (slice_index l (length l - 1) ≡ 10) × AreLines (m ∷ ls)

-- so are those of a trace, and no other lines make it
abbrev pub LinesEndAtLineFeeds : Type 0
LinesEndAtLineFeeds = (trace : List ℕ) → AreLines (lines trace) × ((ls : List (List ℕ)) → joined ls ≡ trace → AreLines ls → ls ≡ lines trace)

-- two lines ask for the same, but for the kind of the medium that they begin with; a line that is bad asks for nothing
pub data SameButKind : Option Command → Option Command → Type 0 where
  same : {c : Option Command} → SameButKind c c
  other_kind : {k j : Kind} {class kg max : ℕ} → SameButKind (Some (to_begin k class kg max)) (Some (to_begin j class kg max))

-- so do these lines, one by one
abbrev pub SameLinesButKind : List (List ℕ) → List (List ℕ) → Type 0
SameLinesButKind [] [] = Unit {0}
SameLinesButKind [] (m ∷ ms) = ⊥
SameLinesButKind (l ∷ ls) [] = ⊥
SameLinesButKind (l ∷ ls) (m ∷ ms) = SameButKind (command_of l) (command_of m) × SameLinesButKind ls ms

-- such traces write the same bytes
abbrev pub KindMakesNoDifference : Type 0
KindMakesNoDifference =
    (a b : List ℕ) → SameLinesButKind (lines (take trace_limit a)) (lines (take trace_limit b)) → trace_writes a ≡ trace_writes b
