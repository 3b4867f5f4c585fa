-- The replay of a trace: what each of its lines does to a terminal, and the bytes that it writes
use Rattle.std.specs.Prelude.{ℕ, ◌+◌, List, [], ◌∷◌, ◌++◌, take, replicate, None}
use Rattle.rules.specs.Settings.{Settings, Checked, passed, refused, checked}
use Rattle.rules.specs.Rows.{blank_row}
use Rattle.rules.specs.Tickets.{decimal}
use Rattle.rules.specs.Terminal.{World, Entries, opening, sample, key, weigh, store, void, print, release, Answer, done, gives, prints, refuses, acts}
use Rattle.rules.specs.Promise.{dark}
use Rattle.rules.specs.Trace.{trace_limit, lines, Command, to_begin, to_sample, to_press, to_weigh, to_reopen, to_release, to_print, Reading, asks, refused as unreadable, reading_of}

-- ---- What is written

-- E, the refusal's number in two digits and the line's in five, parted by one space, and a line feed
unfoldable pub refusal_line : (number line : ℕ) → List ℕ
refusal_line number line = 69 ∷ 32 ∷ (decimal 2 number ++ (32 ∷ (decimal 5 line ++ (10 ∷ []))))

-- for an answer, at a line of the trace: a ticket line as it is, a refusal by its numbers, and else nothing
abbrev pub reply_to : (line : ℕ) → Answer → List ℕ
reply_to line done = []
reply_to line (gives n) = []
reply_to line (prints text) = text
reply_to line (refuses number place) = refusal_line number line

-- ---- What a line does

-- no terminal yet, or one with its settings, over its memory
pub data Replay : Type 0 where
  unopened : Replay
  running : Settings → World → Replay

-- eight blank pages with no power
unfoldable pub eight_pages : World
eight_pages = dark (replicate 128 blank_row)

-- a record that was stored is printed; one that could not be stored is voided
abbrev pub then_printed : Answer × World → Answer × World
then_printed (gives n, w) = acts (print n 76) w
then_printed (refuses number place, w) = (refuses number place, (acts void w).1)
then_printed (a, w) = (a, w)

-- what was weighed is stored
abbrev pub then_stored : Answer × World → Answer × World
then_stored (done, w) = then_printed (acts store w)
then_stored (a, w) = (a, w)

-- weighs, stores and prints, as far as nothing is refused
abbrev pub weighs_out : Entries → World → Answer × World
weighs_out e w = then_stored (acts (weigh e) w)

-- a terminal is opened over eight blank pages, if its settings pass
abbrev pub begins : (line : ℕ) → Checked → List ℕ × Replay
begins line (passed s) = ([], running s (acts (opening s) eight_pages).1)
begins line (refused number) = (refusal_line number line, unopened)

-- what a terminal is asked for by a line; a second beginning is refused 32, whose place is the line
abbrev pub does : Settings → World → (line : ℕ) → Command → Answer × World
does s w line (to_begin kind class kg max) = (refuses 32 line, w)
does s w line (to_sample x) = acts (sample x) w
does s w line (to_press k) = acts (key k) w
does s w line (to_weigh e) = weighs_out e w
does s w line to_reopen = acts (opening s) w
does s w line (to_release day today) = acts (release (record { day = day; today = today; keep = None })) w
does s w line (to_print n) = acts (print n 76) w

-- the bytes that a line writes, and what it leaves: before a terminal is opened every line but a good beginning is refused 32
abbrev pub plays : Replay → (line : ℕ) → Reading → List ℕ × Replay
plays unopened line (unreadable number place) = (refusal_line number line, unopened)
plays unopened line (asks (to_begin kind class kg max)) = begins line (checked class kg max)
plays unopened line (asks c) = (refusal_line 32 line, unopened)
plays (running s w) line (unreadable number place) = (refusal_line number line, running s w)
plays (running s w) line (asks c) = (reply_to line (does s w line c).0, running s (does s w line c).1)

-- ---- What a trace writes

-- these lines, after so many others
unfoldable pub writes_from : Replay → (before : ℕ) → List (List ℕ) → List ℕ
writes_from r before [] = []
writes_from r before (l ∷ ls) =
    let after : List ℕ × Replay = plays r (before + 1) (reading_of (before + 1) l) in after.0 ++ writes_from after.1 (before + 1) ls

-- a trace, of which no more is looked at than its limit
unfoldable pub trace_writes : (bytes : List ℕ) → List ℕ
trace_writes bytes = writes_from unopened 0 (lines (take trace_limit bytes))
