use Rattle.std.proofs.Common.{◌≡◌, refl, eqb, ℕ, ◌+◌, ◌<◌, ◌≤◌, ◌-◌, List, length, take, drop, IfSome, subst, sym, ap, ◌∙◌, arith, Option, None, Some}
use Rattle.std.specs.Prelude.{option_map}
use Rattle.std.specs.Option.{ok_or}
use Rattle.std.proofs.lemmas.List.{length-drop}
use Rattle.std.specs.List.{position}
use Rattle.rules.specs.Lists.{when_some}
use Rattle.rules.specs.Trace.{Command as TheCommand, Reading, asks, refused, lines, mark_place}
use Rattle.trace.specs.declared.command.Command.{Command}
use Rattle.trace.specs.Meaning.{meaning, reading, MarksIn, AskedIn, MarkAt, line_of}
use Rattle.trace.proofs.Finding.{rest_is, found_at, not_found}
use Rattle.trace.proofs.WordsRead.{empty, filled}
use Rattle.trace.proofs.LinesRead.{ended, unended, asked, asked_marks, marks_of_front, none_left, none_next, ended_mark, ended_size, unended_size, asked_at}
use Rattle.trace.proofs.reader.Reader.next_item.Goals as goal
use Rattle.trace.proofs.reader.Reader.next_item.Goals.{in-Some, in-None}

pub returns-then-is_empty-clause-item : goal.returns-then-is_empty-clause-item
returns-then-is_empty-clause-item c =
    let reader = c.args.self.now in
    let whole = rest_is reader.trace.now _ reader.place refl in
    let None : length (drop reader.place reader.trace.now) < 1 = empty _ _ (c.is_empty.ensures ∙ ap (λ r. eqb (length r) 0) whole) c.if-is_empty.true in
    none_left reader.trace.now reader.lines reader.place (omega (arith, length-drop reader.place reader.trace.now, reader.inside))

pub returns-clause-mark : goal.returns-clause-mark
returns-clause-mark c =
    let trace = c.args.self.now.trace.now in
    let marks : AskedIn trace (ok_or c.match-find.asks _) = asked_marks trace c.match-find.asks _ (elim c.match-find.branch [
      | in-Some w ↦ subst (MarksIn trace) (sym w.asks-is) (marks_of_front trace _ w.command-asks.result w.command-asks.ensures.marks)
      | in-None w ↦ subst (MarksIn trace) (sym w.asks-is) tt
    ]) in
    subst (AskedIn trace) (sym c.ok_or.ensures.value) marks

pub returns-clause-item : goal.returns-clause-item
returns-clause-item c =
    let reader = c.args.self.now in
    let trace : List ℕ = reader.trace.now in
    let k : ℕ = reader.lines in
    let out : Option TheCommand → ℕ → Option (ℕ × Reading) × ℕ × List (List ℕ) = λ o place. (Some (k + 1, when_some o (refused 32 (k + 1)) asks), k + 1, lines (drop place trace)) in
    let whole : take (length trace - reader.place) (drop reader.place trace) ≡ drop reader.place trace = rest_is trace _ reader.place refl in
    let inside : 1 ≤ length (drop reader.place trace) = filled _ _ (c.is_empty.ensures ∙ ap (λ r. eqb (length r) 0) whole) c.if-is_empty.false in
    let place : ℕ = c.match-find.self.1.1.0 in
    let give : Reading → Option (ℕ × Reading) × ℕ × List (List ℕ) = λ q. (Some (k + 1, q), k + 1, lines (drop place trace)) in
    ap give (ap reading c.ok_or.ensures.value ∙ asked c.match-find.asks (k + 1))
    ∙ elim c.match-find.branch [
      | in-Some w ↦
          let found = found_at 10 (drop reader.place trace) w.in-Some.size (w.in-Some.ensures ∙ ap (position (λ b. eqb b 10)) whole) in
          ap (λ o. out (option_map meaning o) c.match-find.self.1.1.0) w.asks-is ∙ ap (λ s. out (option_map meaning w.command-asks.result) s.1.1.0) w.self-is
          ∙ ended trace reader.place k w.in-Some.size (option_map meaning w.command-asks.result) found.0 found.1 w.command-asks.ensures.command
      | in-None w ↦
          ap (λ o. out (option_map meaning o) c.match-find.self.1.1.0) w.asks-is ∙ ap (λ s. out None s.1.1.0) w.self-is
          ∙ unended trace reader.place k (omega (arith, inside, length-drop reader.place trace)) (not_found 10 (drop reader.place trace) (w.in-None.ensures ∙ ap (position (λ b. eqb b 10)) whole))
    ]

pub returns-then-is_empty-clause-behind : goal.returns-then-is_empty-clause-behind
returns-then-is_empty-clause-behind c =
    let reader = c.args.self.now in
    let trace : List ℕ = reader.trace.now in
    let whole : take (length trace - reader.place) (drop reader.place trace) ≡ drop reader.place trace = rest_is trace _ reader.place refl in
    let None : length (drop reader.place trace) < 1 = empty _ _ (c.is_empty.ensures ∙ ap (λ r. eqb (length r) 0) whole) c.if-is_empty.true in
    omega (arith, none_next trace reader.place (omega (arith, length-drop reader.place trace, reader.inside)))

pub returns-clause-place : goal.returns-clause-place
returns-clause-place c =
    let reader = c.args.self.now in
    let trace : List ℕ = reader.trace.now in
    let whole : take (length trace - reader.place) (drop reader.place trace) ≡ drop reader.place trace = rest_is trace _ reader.place refl in
    let At : Command → Type 0 = MarkAt (reader.place + mark_place (line_of reader)) in
    asked_at At c.match-find.asks _ _ c.ok_or.ensures.value (elim c.match-find.branch [
      | in-Some w ↦
          let found = found_at 10 (drop reader.place trace) w.in-Some.size (w.in-Some.ensures ∙ ap (position (λ b. eqb b 10)) whole) in
          let there = ended_mark trace reader.place w.in-Some.size found.0 found.1 in
          subst (λ o. IfSome o At) (sym w.asks-is) (subst (λ k. IfSome w.command-asks.result (MarkAt (reader.place + k))) there w.command-asks.ensures.place)
      | in-None w ↦ subst (λ o. IfSome o At) (sym w.asks-is) tt
    ])

pub returns-clause-behind : goal.returns-clause-behind
returns-clause-behind c =
    let reader = c.args.self.now in
    let trace : List ℕ = reader.trace.now in
    let whole : take (length trace - reader.place) (drop reader.place trace) ≡ drop reader.place trace = rest_is trace _ reader.place refl in
    let inside : 1 ≤ length (drop reader.place trace) = filled _ _ (c.is_empty.ensures ∙ ap (λ r. eqb (length r) 0) whole) c.if-is_empty.false in
    elim c.match-find.branch [
      | in-Some w ↦
          let found = found_at 10 (drop reader.place trace) w.in-Some.size (w.in-Some.ensures ∙ ap (position (λ b. eqb b 10)) whole) in
          ap (λ s. s.1.1.0) w.self-is ∙ ended_size trace reader.place w.in-Some.size found.0 found.1
      | in-None w ↦
          ap (λ s. s.1.1.0) w.self-is
          ∙ unended_size trace reader.place (omega (arith, inside, length-drop reader.place trace)) (not_found 10 (drop reader.place trace) (w.in-None.ensures ∙ ap (position (λ b. eqb b 10)) whole))
    ]
