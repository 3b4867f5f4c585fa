-- A line, from its first byte to its line feed, and what is read of it
use Rattle.std.proofs.Common.{◌≡◌, ℕ, suc, ◌+◌, ◌-◌, ◌<◌, ◌≤◌, List, length, take, drop, sym, refl, ap, ◌∙◌, subst, inl, inr, arith, Option, None, Some, IfSome, IfOk, Result}
use Rattle.std.specs.Prelude.{option_map}
use Rattle.std.proofs.lemmas.Bool.{cases_lt}
use Rattle.std.proofs.lemmas.List.{drop_all, drop-drop, drop-take, take_all, take-take, length-drop, length-take, length-take-le, nil_from_length}
use Rattle.std.specs.Option.{ok_or}
use Rattle.rules.specs.Lists.{when_some}
use Rattle.rules.specs.Trace.{Command as TheCommand, Reading, asks, refused, a_byte, next, asks_by, lines, words, command_of, next_line, spaced, mark_place}
use Rattle.trace.specs.declared.command.Command.{Command}
use Rattle.trace.specs.declared.command.Command.TheVariants.{Begin, Sample, Zero, Tare, Preset, ClearTare, Weigh, Reopen, Release, Print}
use Rattle.trace.specs.Places.{words_from}
use Rattle.trace.specs.declared.fault.TraceFault.{TraceFault}
use Rattle.trace.specs.Meaning.{meaning, reading, MarksIn, AskedIn, next_of}
use Rattle.trace.proofs.Finding.{before, first_line, first_text, no_text, from_inside}

-- ---- One line

module _ (trace : List ℕ) (start : ℕ) where
  -- without a line feed it is bad
  pub unended : (k : ℕ) → start < length trace → length (drop start trace) ≤ before 10 (drop start trace)
      → ◌≡◌ {A = Option (ℕ × Reading) × ℕ × List (List ℕ)} (Some (k + 1, refused 32 (k + 1)), k + 1, lines (drop (length trace) trace)) (next_line k (lines (drop start trace)))
  unfolding command_of
  unended k inside long =
      let xs : List ℕ = drop start trace in
      let n : ℕ = before 10 xs in
      let R : Option TheCommand → List ℕ → Option (ℕ × Reading) × ℕ × List (List ℕ) = λ o l. (Some (k + 1, when_some o (refused 32 (k + 1)) asks), k + 1, lines l) in
      let bad : command_of (take (suc n) xs) ≡ None = ap command_of (take_all (suc n) xs (omega arith)) ∙ ap (λ o. when_some o None (λ text. next a_byte (words text) asks_by)) (no_text xs long) in
      let end : drop (length trace) trace ≡ drop (suc n) xs = drop_all (length trace) trace (omega arith) ∙ sym (drop_all (suc n) xs (omega arith)) in
      sym (ap (next_line k) (first_line xs (omega (arith, length-drop start trace))) ∙ ap (λ o. R o (drop (suc n) xs)) bad ∙ sym (ap (λ l. R None l) end))

  -- with one it asks for what the words before that ask for, and the next line begins behind it
  pub ended : (k n : ℕ) (o : Option TheCommand) → n ≡ before 10 (drop start trace) → n < length (drop start trace) → o ≡ next a_byte (words_from start (take (start + n) trace)) asks_by
      → ◌≡◌ {A = Option (ℕ × Reading) × ℕ × List (List ℕ)} (Some (k + 1, when_some o (refused 32 (k + 1)) asks), k + 1, lines (drop (start + (n + 1)) trace)) (next_line k (lines (drop start trace)))
  unfolding command_of
  ended k n o found short e =
      let xs : List ℕ = drop start trace in
      let m : ℕ = before 10 xs in
      let room : start ≤ length (take (start + n) trace) = omega (arith, length-drop start trace, length-take (start + n) trace) in
      let R : Option TheCommand → List ℕ → Option (ℕ × Reading) × ℕ × List (List ℕ) = λ o l. (Some (k + 1, when_some o (refused 32 (k + 1)) asks), k + 1, lines l) in
      let text : drop start (take (start + n) trace) ≡ take m xs = drop-take start n trace ∙ ap (λ j. take j xs) found in
      let good : command_of (take (suc m) xs) ≡ o =
      ap (λ o. when_some o None (λ text. next a_byte (words text) asks_by)) (first_text xs (omega arith))
      ∙ ap (λ t. next a_byte (words t) asks_by) (sym text) ∙ ap (λ ws. next a_byte ws asks_by) (sym (from_inside start (take (start + n) trace) room)) ∙ sym e in
      let on : start + suc m ≡ start + (n + 1) = omega arith in
      let behind : drop (suc m) xs ≡ drop (start + (n + 1)) trace = drop-drop (suc m) start trace ∙ ap (λ j. drop j trace) on in
      sym (ap (next_line k) (first_line xs (omega arith)) ∙ ap (λ o. R o (drop (suc m) xs)) good ∙ ap (λ l. R o l) behind)

  -- the line that comes next, where a byte is left
  next_is : start < length trace → next_of (lines (drop start trace)) ≡ take (suc (before 10 (drop start trace))) (drop start trace)
  next_is inside = ap next_of (first_line (drop start trace) (omega (arith, length-drop start trace)))

  -- with a line feed, a mark behind the first three words before that is at its place in the line
  pub ended_mark : (n : ℕ) → n ≡ before 10 (drop start trace) → n < length (drop start trace)
      → spaced (take 3 (words_from start (take (start + n) trace))) ≡ mark_place (next_of (lines (drop start trace)))
  unfolding mark_place
  ended_mark n found short =
      let xs : List ℕ = drop start trace in
      let m : ℕ = before 10 xs in
      let size : length xs ≡ length trace - start = length-drop start trace in
      let room : start ≤ length (take (start + n) trace) = omega (arith, size, length-take (start + n) trace) in
      let text : drop start (take (start + n) trace) ≡ take m xs = drop-take start n trace ∙ ap (λ j. take j xs) found in
      let there : mark_place (take (suc m) xs) ≡ spaced (take 3 (words (take m xs))) = ap (λ o. when_some o 0 (λ text. spaced (take 3 (words text)))) (first_text xs (omega arith)) in
      ap (λ ws. spaced (take 3 ws)) (from_inside start (take (start + n) trace) room) ∙ ap (λ t. spaced (take 3 (words t))) text
      ∙ sym (ap mark_place (next_is (omega arith)) ∙ there)

  -- the next line begins behind the line feed
  pub ended_size : (n : ℕ) → n ≡ before 10 (drop start trace) → n < length (drop start trace) → start + (n + 1) ≡ start + length (next_of (lines (drop start trace)))
  ended_size n found short =
      let xs : List ℕ = drop start trace in
      let size : length xs ≡ length trace - start = length-drop start trace in
      omega (arith, found, ap length (next_is (omega arith)), length-take-le (suc (before 10 xs)) xs (omega arith))

  -- and without one at the end
  pub unended_size : start < length trace → length (drop start trace) ≤ before 10 (drop start trace) → length trace ≡ start + length (next_of (lines (drop start trace)))
  unended_size inside long =
      let xs : List ℕ = drop start trace in
      omega (arith, length-drop start trace, ap length (next_is inside), ap length (take_all (suc (before 10 xs)) xs (omega arith)))

-- what is handed out of what a line asks for
pub asked : (o : Option Command) (k : ℕ) → reading (ok_or o (record { line = k })) ≡ when_some (option_map meaning o) (refused 32 k) asks
asked None k = refl
asked (Some c) k = refl

pub asked_marks : (text : List ℕ) (o : Option Command) (f : TraceFault) → MarksIn text o → AskedIn text (ok_or o f)
asked_marks text None f h = tt
asked_marks text (Some c) f h = h

-- and what holds of what it asks for
pub asked_at : (P : Command → Type 0) (o : Option Command) (f : TraceFault) (r : Result Command TraceFault) → r ≡ ok_or o f → IfSome o P → IfOk r P
asked_at P None f r e h = subst (λ r. IfOk r P) (sym e) tt
asked_at P (Some c) f r e h = subst (λ r. IfOk r P) (sym e) h

-- past the last line nothing is handed out
pub none_left : (trace : List ℕ) (k place : ℕ) → length trace ≤ place → ◌≡◌ {A = Option (ℕ × Reading) × ℕ × List (List ℕ)} (None, k, lines (drop place trace)) (next_line k (lines (drop place trace)))
unfolding lines
none_left trace k place past =
    let P : List ℕ → Type 0 = λ l. ◌≡◌ {A = Option (ℕ × Reading) × ℕ × List (List ℕ)} (None, k, lines l) (next_line k (lines l)) in
    subst P (sym (drop_all place trace past)) refl

-- and none has no bytes
pub none_next : (trace : List ℕ) (place : ℕ) → length trace ≤ place → length (next_of (lines (drop place trace))) ≡ 0
unfolding lines
none_next trace place past = ap (λ l. length (next_of (lines l))) (drop_all place trace past)

-- ---- Marks

-- a part of the front of a text is a part of the text
part_of_front : (m xs : List ℕ) (p n : ℕ) → m ≡ take (length m) (drop p (take n xs)) → m ≡ take (length m) (drop p xs)
part_of_front m xs p n e =
    let ys : List ℕ = drop p (take n xs) in
    let zs : List ℕ = drop p xs in
    let fits : length m ≤ length ys = omega (arith, ap length e, length-take (length m) ys) in
    let front : length (take n xs) ≤ n = omega (arith, length-take n xs) in
    elim (cases_lt n p) [
      | inl past ↦
          let None : length m ≡ 0 = omega (arith, ap length (drop_all p (take n xs) (omega arith))) in
          nil_from_length m None ∙ sym (ap (λ k. take k zs) None)
      | inr within ↦
          let k : ℕ = n - p in
          let split : n ≡ p + k = omega arith in
          let part : ys ≡ take k zs = ap (λ j. drop p (take j xs)) split ∙ drop-take p k xs in
          let few : length m ≤ k = omega (arith, ap length part, length-take k zs) in
          e ∙ ap (take (length m)) part ∙ take-take (length m) k zs few
    ]

pub marks_of_front : (xs : List ℕ) (n : ℕ) (r : Option Command) → MarksIn (take n xs) r → MarksIn xs r
marks_of_front xs n None h = tt
marks_of_front xs n (Some (Begin kind class kg max)) h = tt
marks_of_front xs n (Some (Sample load)) h = tt
marks_of_front xs n (Some Zero) h = tt
marks_of_front xs n (Some Tare) h = tt
marks_of_front xs n (Some (Preset value)) h = tt
marks_of_front xs n (Some ClearTare) h = tt
marks_of_front xs n (Some (Weigh day minute mark place price)) h = part_of_front mark.now xs place n h
marks_of_front xs n (Some Reopen) h = tt
marks_of_front xs n (Some (Release day today)) h = tt
marks_of_front xs n (Some (Print number)) h = tt
