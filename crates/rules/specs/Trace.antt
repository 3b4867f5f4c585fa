-- A trace: text in lines, each of which asks a terminal for something
use Rattle.std.specs.Prelude.{ℕ, ◌+◌, cond, ◌&&◌, List, [], ◌∷◌, length, take, ℤ, pos, neg_ℤ, ◌==◌, nat_le, Option, None, Some}
use Rattle.rules.specs.Lists.{when_some}
use Rattle.rules.specs.Terminal.{Key, set_zero, take_tare, clear_tare, preset_tare, Entries, all_digits, written}

-- ---- Lines

-- of what is handed in, so many bytes at most are the trace
abbrev pub trace_limit : ℕ
trace_limit = 32768

-- a byte in front of the first of these texts
abbrev pub in_front : ℕ → List (List ℕ) → List (List ℕ)
in_front c [] = (c ∷ []) ∷ []
in_front c (t ∷ ts) = (c ∷ t) ∷ ts

-- the lines of a trace: a line feed, 10, ends its line and is a part of it; the last line may have none
unfoldable pub lines : List ℕ → List (List ℕ)
lines [] = []
lines (c ∷ cs) = cond (c == 10) ((c ∷ []) ∷ lines cs) (in_front c (lines cs))

-- a, where nothing is left
abbrev pub at_end : {A B : Type 0} → List B → A → Option A
at_end [] a = Some a
at_end (b ∷ bs) a = None

-- what stands before the line feed that ends a line; none where no line feed does
unfoldable pub text_of : (line : List ℕ) → Option (List ℕ)
text_of [] = None
text_of (c ∷ cs) = cond (c == 10) (at_end cs []) (when_some (text_of cs) None (λ t. Some (c ∷ t)))

-- ---- Words: the letter of a line, and its fields

-- what stands between the spaces, 32; two spaces in a row have an empty word between them
unfoldable pub words : (text : List ℕ) → List (List ℕ)
words [] = [] ∷ []
words (c ∷ cs) = cond (c == 32) ([] ∷ words cs) (in_front c (words cs))

-- one byte alone
unfoldable pub a_byte : List ℕ → Option ℕ
a_byte [] = None
a_byte (c ∷ cs) = at_end cs c

-- 1 to 9 digits
unfoldable pub a_number : List ℕ → Option ℕ
a_number word = cond (nat_le 1 (length word) && (nat_le (length word) 9 && all_digits word)) (Some (written word)) None

-- a number, or one behind a minus, 45
unfoldable pub a_load : List ℕ → Option ℤ
a_load [] = None
a_load (c ∷ cs) =
    cond (c == 45) (when_some (a_number cs) None (λ n. Some (neg_ℤ (pos n)))) (when_some (a_number (c ∷ cs)) None (λ n. Some (pos n)))

-- a number of at most 65,535
unfoldable pub a_day : List ℕ → Option ℕ
a_day word = when_some (a_number word) None (λ n. cond (nat_le n 65535) (Some n) None)

-- 1 to 8 bytes, whatever they are
unfoldable pub a_mark : List ℕ → Option (List ℕ)
a_mark word = cond (nat_le 1 (length word) && nat_le (length word) 8) (Some word) None

-- the kinds of media
pub data Kind : Type 0 where
  flash sectors : Kind

-- F or S
unfoldable pub a_kind : List ℕ → Option Kind
a_kind word = when_some (a_byte word) None (λ c. cond (c == 70) (Some flash) (cond (c == 83) (Some sectors) None))

-- ---- What a line asks for

-- what a line may ask for; to begin has the kind of the medium, and the plain numbers from which the settings are checked
pub data Command : Type 0 where
  to_begin : Kind → (class kg max : ℕ) → Command
  to_sample : ℤ → Command
  to_press : Key → Command
  to_weigh : Entries → Command
  to_reopen : Command
  to_release : (day today : ℕ) → Command
  to_print : (number : ℕ) → Command

-- the first of these words as what it should be, with the words behind it
abbrev pub first_as : {A : Type 0} → (List ℕ → Option A) → List (List ℕ) → Option (A × List (List ℕ))
first_as it [] = None
first_as it (w ∷ ws) = when_some (it w) None (λ a. Some (a, ws))

-- what f makes of that word and of the words behind it; none where there is no such word
abbrev pub next : {A B : Type 0} → (List ℕ → Option A) → List (List ℕ) → (A → List (List ℕ) → Option B) → Option B
next it ws f = when_some (first_as it ws) None (λ p. f p.0 p.1)

unfoldable pub asks_to_begin : (fields : List (List ℕ)) → Option Command
asks_to_begin ws =
    next a_kind ws (λ kind ws. next a_number ws (λ class ws. next a_number ws (λ kg ws. next a_number ws (λ max ws. at_end ws (to_begin kind class kg max)))))

unfoldable pub asks_to_sample : (fields : List (List ℕ)) → Option Command
asks_to_sample ws = next a_load ws (λ load ws. at_end ws (to_sample load))

unfoldable pub asks_to_preset : (fields : List (List ℕ)) → Option Command
asks_to_preset ws = next a_number ws (λ value ws. at_end ws (to_press (preset_tare (pos value))))

unfoldable pub asks_to_weigh : (fields : List (List ℕ)) → Option Command
asks_to_weigh ws =
    next a_day ws (λ day ws. next a_number ws (λ minute ws. next a_mark ws (λ mark ws. next a_number ws (λ price ws.
    at_end ws (to_weigh (record { day = day; minute = minute; mark = mark; unit_price = price }))))))

unfoldable pub asks_to_release : (fields : List (List ℕ)) → Option Command
asks_to_release ws = next a_day ws (λ day ws. next a_day ws (λ today ws. at_end ws (to_release day today)))

unfoldable pub asks_to_print : (fields : List (List ℕ)) → Option Command
asks_to_print ws = next a_number ws (λ number ws. at_end ws (to_print number))

-- by the letter: B, S, Z, T, P, N, W, O, R, L
unfoldable pub asks_by : (letter : ℕ) (fields : List (List ℕ)) → Option Command
asks_by letter ws =
    cond (letter == 66) (asks_to_begin ws) (
    cond (letter == 83) (asks_to_sample ws) (
    cond (letter == 90) (at_end ws (to_press set_zero)) (
    cond (letter == 84) (at_end ws (to_press take_tare)) (
    cond (letter == 80) (asks_to_preset ws) (
    cond (letter == 78) (at_end ws (to_press clear_tare)) (
    cond (letter == 87) (asks_to_weigh ws) (
    cond (letter == 79) (at_end ws to_reopen) (
    cond (letter == 82) (asks_to_release ws) (
    cond (letter == 76) (asks_to_print ws) None)))))))))

-- what a line asks for; none where it is bad
unfoldable pub command_of : (line : List ℕ) → Option Command
command_of line = when_some (text_of line) None (λ text. next a_byte (words text) asks_by)

-- so many bytes are these words, with a space behind each
abbrev pub spaced : List (List ℕ) → ℕ
spaced [] = 0
spaced (w ∷ ws) = length w + 1 + spaced ws

-- where the mark begins in a line of W: behind the letter, the day and the minute
unfoldable pub mark_place : (line : List ℕ) → ℕ
mark_place line = when_some (text_of line) 0 (λ text. spaced (take 3 (words text)))

-- ---- Reading line by line

-- what is read of a line: what it asks for, or a refusal by its number and its place
pub data Reading : Type 0 where
  asks : Command → Reading
  refused : (number place : ℕ) → Reading

-- lines are counted from 1, and a bad one is refused under its number
abbrev pub reading_of : (number : ℕ) (line : List ℕ) → Reading
reading_of n line = when_some (command_of line) (refused 32 n) asks

-- the number of the next of these lines and what is read of it, if there is one; then how many lines were read, and those that are left
abbrev pub next_line : (before : ℕ) → List (List ℕ) → Option (ℕ × Reading) × ℕ × List (List ℕ)
next_line before [] = (None, before, [])
next_line before (l ∷ ls) = (Some (before + 1, reading_of (before + 1) l), before + 1, ls)
