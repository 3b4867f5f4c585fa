-- What the commands and the items of the code mean in the rules
use Rattle.std.specs.Prelude.{◌≡◌, ◌+◌, ◌≤◌, ℕ, List, [], ◌∷◌, length, take, drop, Ok, Err, IfSome, IfOk, Result, Option, None, Some, option_map}
use Rattle.std.specs.Borrow.{Bor}
use Rattle.rules.specs.Terminal.{set_zero, take_tare, clear_tare, preset_tare}
use Rattle.rules.specs.Trace.{Kind, flash, sectors, Command as TheCommand, to_begin, to_sample, to_press, to_weigh, to_reopen, to_release, to_print, Reading, asks, refused, first_as, lines, trace_limit, next_line, mark_place}
use Rattle.rules.specs.declared.kind.MediumKind.{MediumKind}
use Rattle.rules.specs.declared.kind.MediumKind.TheVariants.{Flash, Sectors}
use Rattle.trace.specs.declared.command.Command.{Command}
use Rattle.trace.specs.declared.command.Command.TheVariants.{Begin, Sample, Zero, Tare, Preset, ClearTare, Weigh, Reopen, Release, Print}
use Rattle.trace.specs.declared.command.Item.{Item}
use Rattle.trace.specs.declared.fault.TraceFault.{TraceFault}
use Rattle.trace.specs.declared.fields.Fields.{Fields}
use Rattle.trace.specs.declared.reader.Reader.{Reader}
use Rattle.trace.specs.Places.{words_from}

abbrev pub kind_of : MediumKind → Kind
kind_of Flash = flash
kind_of Sectors = sectors

abbrev pub meaning : Command → TheCommand
meaning (Begin kind class kg max) = to_begin (kind_of kind) class kg max
meaning (Sample load) = to_sample load
meaning Zero = to_press set_zero
meaning Tare = to_press take_tare
meaning (Preset value) = to_press (preset_tare value)
meaning ClearTare = to_press clear_tare
meaning (Weigh day minute mark place price) = to_weigh (record { day = day; minute = minute; mark = mark.now; unit_price = price })
meaning Reopen = to_reopen
meaning (Release day today) = to_release day today
meaning (Print number) = to_print number

abbrev pub reading : Result Command TraceFault → Reading
reading (Ok c) = asks (meaning c)
reading (Err f) = refused 32 f.line

-- the number of the line, and what was read of it
abbrev pub item_of : Item → ℕ × Reading
item_of i = (i.line, reading i.asks)

-- P holds of the mark of a command and its place, if it has a mark
abbrev pub IfMark : Command → (List ℕ → ℕ → Type 0) → Type 0
IfMark (Weigh day minute mark place price) P = P mark.now place
IfMark c P = Unit {0}

-- a mark stands in a text at its place
abbrev pub MarkIn : (text : List ℕ) → Command → Type 0
MarkIn text c = IfMark c (λ mark place. mark ≡ take (length mark) (drop place text))

-- so does the mark of a command, if there is one
abbrev pub MarksIn : (text : List ℕ) → Option Command → Type 0
MarksIn text None = Unit {0}
MarksIn text (Some c) = MarkIn text c

abbrev pub AskedIn : (text : List ℕ) → Result Command TraceFault → Type 0
AskedIn text (Ok c) = MarkIn text c
AskedIn text (Err f) = Unit {0}

abbrev pub ItemIn : (text : List ℕ) → Option Item → Type 0
ItemIn text None = Unit {0}
ItemIn text (Some i) = AskedIn text i.asks

-- this is the place of a mark
abbrev pub MarkAt : ℕ → Command → Type 0
MarkAt there c = IfMark c (λ mark place. place ≡ there)

-- the mark of an item begins where its line begins, and so far behind that as it does in the line
abbrev pub ItemAt : (begins : ℕ) (line : List ℕ) → Option Item → Type 0
ItemAt begins line item = IfSome item (λ i. IfOk i.asks (MarkAt (begins + mark_place line)))

-- ---- What is left

-- the words that are not read yet
abbrev pub words_left : Fields → List (List ℕ)
words_left f = words_from f.place f.text.now

-- what was read, with the words behind it
abbrev pub read_as : {A B : Type 0} → (A → B) → Option A → List (List ℕ) → Option (B × List (List ℕ))
read_as means None ws = None
read_as means (Some a) ws = Some (means a, ws)

-- a word is taken of the text, if there is one, and the words behind it are left
abbrev pub TakesWord : (before after : Fields) → Option (Bor (List ℕ)) → Type 0
TakesWord before after word =
    (read_as (λ w. w.now) word (words_left after) ≡ first_as Some (words_left before))
    × IfSome word (λ w. w.now ≡ take (length w.now) (drop before.place before.text.now))
    × (after.text.now ≡ before.text.now)
    × IfSome word (λ w. after.place ≡ before.place + (length w.now + 1))

-- how many lines were handed out, and those that are left
abbrev pub standing : Reader → ℕ × List (List ℕ)
standing r = (r.lines, lines (drop r.place r.trace.now))

-- the line that comes next; where none is left it has no bytes
abbrev pub next_of : (left : List (List ℕ)) → List ℕ
next_of [] = []
next_of (l ∷ ls) = l

-- it begins at the place of the reader
abbrev pub line_of : Reader → List ℕ
line_of r = next_of (standing r).1

-- an item, with where the reader stands then
abbrev pub handed : Option Item → Reader → Option (ℕ × Reading) × ℕ × List (List ℕ)
handed i r = (option_map item_of i, (standing r).0, (standing r).1)

-- the next line is handed out, if there is one; its mark is the part of the trace at its place in the line; the trace stays, and the next line begins behind
abbrev pub HandsOut : (before : Reader) → Option Item → (after : Reader) → Type 0
HandsOut before item after =
    (handed item after ≡ next_line (standing before).0 (standing before).1) × IfSome item (λ i. i.line ≤ trace_limit) × ItemIn before.trace.now item
    × ItemAt before.place (line_of before) item × (after.trace.now ≡ before.trace.now) × (after.place ≡ before.place + length (line_of before))
