use Rattle.std.proofs.Common.{◌+◌, take, sym, refl, ap, ◌∙◌, subst, w32, rules, arith}
use Rattle.std.specs.Prelude.{option_map}
use Rattle.std.proofs.lemmas.Int.{to_z-of_z}
use Rattle.rules.specs.Trace.{a_byte, a_kind, a_number, a_load, a_day, a_mark, at_end, to_sample, to_press, asks_by, asks_to_begin, asks_to_sample, asks_to_preset, asks_to_weigh, asks_to_release, asks_to_print, spaced}
use Rattle.rules.specs.Terminal.{preset_tare}
use Rattle.trace.specs.declared.command.Command.{Command}
use Rattle.trace.specs.Meaning.{kind_of, meaning, MarkAt, words_left}
use Rattle.trace.proofs.WordsTaken.{next_is, next_fails, reads, reads_so, stands, small, unsigned, letter_is, no_letter, taken, behind_three, then_given}
use Rattle.trace.proofs.fields.Fields.command.Goals as goal
use Rattle.trace.proofs.fields.Fields.command.Goals.{in-66+in_ok-read-in-66+in_ok-read-in-66-2+in_ok-read-in-66-3+in_ok-read-in-66-4, in-83+in_ok-read-in-83, in-90, in-84, in-80+in_ok-read-in-80, in-78, in-87+in_ok-read-in-87+in_ok-read-in-87-2+in_ok-read-in-87-3+in_ok-read-in-87-4, in-79, in-82+in_ok-day-in-82+in_ok-today-in-82, in-76+in_ok-read-in-76}

pub returns-in_err-read-in-66-clause-command : goal.returns-in_err-read-in-66-clause-command
unfolding asks_by asks_to_begin
returns-in_err-read-in-66-clause-command c =
    ap (option_map meaning) c.from_residual-in_err-read-in-66.ensures
    ∙ sym (letter_is _ _ _ 66 (reads_so (λ c. c) a_byte c.args.self.now c.read.new.self _ c.in_ok-read.ensures) c.in-66.is
    ∙ next_fails a_kind _ _ (reads_so kind_of a_kind c.read.new.self c.read-in-66.new.self _ c.in_err-read-in-66.ensures))

pub returns-in_err-read-in-66-2-clause-command : goal.returns-in_err-read-in-66-2-clause-command
unfolding asks_by asks_to_begin
returns-in_err-read-in-66-2-clause-command c =
    ap (option_map meaning) c.from_residual-in_err-read-in-66-2.ensures
    ∙ sym (letter_is _ _ _ 66 (reads_so (λ c. c) a_byte c.args.self.now c.read.new.self _ c.in_ok-read.ensures) c.in-66.is
    ∙ next_is a_kind _ _ _ _ (reads_so kind_of a_kind c.read.new.self c.read-in-66.new.self _ c.in_ok-read-in-66.ensures)
    ∙ next_fails a_number _ _ (reads (λ n. n) a_number c.read-in-66.new.self c.read-in-66-2.new.self _ _ c.in_err-read-in-66-2.ensures))

pub returns-in_err-read-in-66-3-clause-command : goal.returns-in_err-read-in-66-3-clause-command
unfolding asks_by asks_to_begin
returns-in_err-read-in-66-3-clause-command c =
    ap (option_map meaning) c.from_residual-in_err-read-in-66-3.ensures
    ∙ sym (letter_is _ _ _ 66 (reads_so (λ c. c) a_byte c.args.self.now c.read.new.self _ c.in_ok-read.ensures) c.in-66.is
    ∙ next_is a_kind _ _ _ _ (reads_so kind_of a_kind c.read.new.self c.read-in-66.new.self _ c.in_ok-read-in-66.ensures)
    ∙ next_is a_number _ _ _ _ (reads (λ n. n) a_number c.read-in-66.new.self c.read-in-66-2.new.self _ _ c.in_ok-read-in-66-2.ensures)
    ∙ next_fails a_number _ _ (reads (λ n. n) a_number c.read-in-66-2.new.self c.read-in-66-3.new.self _ _ c.in_err-read-in-66-3.ensures))

pub returns-in_err-read-in-66-4-clause-command : goal.returns-in_err-read-in-66-4-clause-command
unfolding asks_by asks_to_begin
returns-in_err-read-in-66-4-clause-command c =
    ap (option_map meaning) c.from_residual-in_err-read-in-66-4.ensures
    ∙ sym (letter_is _ _ _ 66 (reads_so (λ c. c) a_byte c.args.self.now c.read.new.self _ c.in_ok-read.ensures) c.in-66.is
    ∙ next_is a_kind _ _ _ _ (reads_so kind_of a_kind c.read.new.self c.read-in-66.new.self _ c.in_ok-read-in-66.ensures)
    ∙ next_is a_number _ _ _ _ (reads (λ n. n) a_number c.read-in-66.new.self c.read-in-66-2.new.self _ _ c.in_ok-read-in-66-2.ensures)
    ∙ next_is a_number _ _ _ _ (reads (λ n. n) a_number c.read-in-66-2.new.self c.read-in-66-3.new.self _ _ c.in_ok-read-in-66-3.ensures)
    ∙ next_fails a_number _ _ (reads (λ n. n) a_number c.read-in-66-3.new.self c.read-in-66-4.new.self _ _ c.in_err-read-in-66-4.ensures))

pub returns-in_err-read-in-83-clause-command : goal.returns-in_err-read-in-83-clause-command
unfolding asks_by asks_to_sample
returns-in_err-read-in-83-clause-command c =
    ap (option_map meaning) c.from_residual-in_err-read-in-83.ensures
    ∙ sym (letter_is _ _ _ 83 (reads_so (λ c. c) a_byte c.args.self.now c.read.new.self _ c.in_ok-read.ensures) c.in-83.is
    ∙ next_fails a_load _ _ (reads_so (λ z. z) a_load c.read.new.self c.read-in-83.new.self _ c.in_err-read-in-83.ensures))

pub returns-in_err-read-in-80-clause-command : goal.returns-in_err-read-in-80-clause-command
unfolding asks_by asks_to_preset
returns-in_err-read-in-80-clause-command c =
    ap (option_map meaning) c.from_residual-in_err-read-in-80.ensures
    ∙ sym (letter_is _ _ _ 80 (reads_so (λ c. c) a_byte c.args.self.now c.read.new.self _ c.in_ok-read.ensures) c.in-80.is
    ∙ next_fails a_number _ _ (reads (λ n. n) a_number c.read.new.self c.read-in-80.new.self _ _ c.in_err-read-in-80.ensures))

pub returns-in_err-read-in-87-clause-command : goal.returns-in_err-read-in-87-clause-command
unfolding asks_by asks_to_weigh
returns-in_err-read-in-87-clause-command c =
    ap (option_map meaning) c.from_residual-in_err-read-in-87.ensures
    ∙ sym (letter_is _ _ _ 87 (reads_so (λ c. c) a_byte c.args.self.now c.read.new.self _ c.in_ok-read.ensures) c.in-87.is
    ∙ next_fails a_day _ _ (reads_so (λ n. n) a_day c.read.new.self c.read-in-87.new.self _ c.in_err-read-in-87.ensures))

pub returns-in_err-read-in-87-2-clause-command : goal.returns-in_err-read-in-87-2-clause-command
unfolding asks_by asks_to_weigh
returns-in_err-read-in-87-2-clause-command c =
    ap (option_map meaning) c.from_residual-in_err-read-in-87-2.ensures
    ∙ sym (letter_is _ _ _ 87 (reads_so (λ c. c) a_byte c.args.self.now c.read.new.self _ c.in_ok-read.ensures) c.in-87.is
    ∙ next_is a_day _ _ _ _ (reads_so (λ n. n) a_day c.read.new.self c.read-in-87.new.self _ c.in_ok-read-in-87.ensures)
    ∙ next_fails a_number _ _ (reads (λ n. n) a_number c.read-in-87.new.self c.read-in-87-2.new.self _ _ c.in_err-read-in-87-2.ensures))

pub returns-in_err-read-in-87-3-clause-command : goal.returns-in_err-read-in-87-3-clause-command
unfolding asks_by asks_to_weigh
returns-in_err-read-in-87-3-clause-command c =
    ap (option_map meaning) c.from_residual-in_err-read-in-87-3.ensures
    ∙ sym (letter_is _ _ _ 87 (reads_so (λ c. c) a_byte c.args.self.now c.read.new.self _ c.in_ok-read.ensures) c.in-87.is
    ∙ next_is a_day _ _ _ _ (reads_so (λ n. n) a_day c.read.new.self c.read-in-87.new.self _ c.in_ok-read-in-87.ensures)
    ∙ next_is a_number _ _ _ _ (reads (λ n. n) a_number c.read-in-87.new.self c.read-in-87-2.new.self _ _ c.in_ok-read-in-87-2.ensures)
    ∙ next_fails a_mark _ _ (reads (λ x. x.now) a_mark c.read-in-87-2.new.self c.read-in-87-3.new.self _ _ c.in_err-read-in-87-3.ensures))

pub returns-in_err-read-in-87-4-clause-command : goal.returns-in_err-read-in-87-4-clause-command
unfolding asks_by asks_to_weigh
returns-in_err-read-in-87-4-clause-command c =
    ap (option_map meaning) c.from_residual-in_err-read-in-87-4.ensures
    ∙ sym (letter_is _ _ _ 87 (reads_so (λ c. c) a_byte c.args.self.now c.read.new.self _ c.in_ok-read.ensures) c.in-87.is
    ∙ next_is a_day _ _ _ _ (reads_so (λ n. n) a_day c.read.new.self c.read-in-87.new.self _ c.in_ok-read-in-87.ensures)
    ∙ next_is a_number _ _ _ _ (reads (λ n. n) a_number c.read-in-87.new.self c.read-in-87-2.new.self _ _ c.in_ok-read-in-87-2.ensures)
    ∙ next_is a_mark _ _ _ _ (reads (λ x. x.now) a_mark c.read-in-87-2.new.self c.read-in-87-3.new.self _ _ c.in_ok-read-in-87-3.ensures)
    ∙ next_fails a_number _ _ (reads (λ n. n) a_number c.read-in-87-3.new.self c.read-in-87-4.new.self _ _ c.in_err-read-in-87-4.ensures))

pub returns-in_err-day-in-82-clause-command : goal.returns-in_err-day-in-82-clause-command
unfolding asks_by asks_to_release
returns-in_err-day-in-82-clause-command c =
    ap (option_map meaning) c.from_residual-in_err-day-in-82.ensures
    ∙ sym (letter_is _ _ _ 82 (reads_so (λ c. c) a_byte c.args.self.now c.read.new.self _ c.in_ok-read.ensures) c.in-82.is
    ∙ next_fails a_day _ _ (reads_so (λ n. n) a_day c.read.new.self c.read-in-82.new.self _ c.in_err-day-in-82.ensures))

pub returns-in_err-today-in-82-clause-command : goal.returns-in_err-today-in-82-clause-command
unfolding asks_by asks_to_release
returns-in_err-today-in-82-clause-command c =
    ap (option_map meaning) c.from_residual-in_err-today-in-82.ensures
    ∙ sym (letter_is _ _ _ 82 (reads_so (λ c. c) a_byte c.args.self.now c.read.new.self _ c.in_ok-read.ensures) c.in-82.is
    ∙ next_is a_day _ _ _ _ (reads_so (λ n. n) a_day c.read.new.self c.read-in-82.new.self _ c.in_ok-day-in-82.ensures)
    ∙ next_fails a_day _ _ (reads_so (λ n. n) a_day c.read-in-82.new.self c.read-in-82-2.new.self _ c.in_err-today-in-82.ensures))

pub returns-in_err-read-in-76-clause-command : goal.returns-in_err-read-in-76-clause-command
unfolding asks_by asks_to_print
returns-in_err-read-in-76-clause-command c =
    ap (option_map meaning) c.from_residual-in_err-read-in-76.ensures
    ∙ sym (letter_is _ _ _ 76 (reads_so (λ c. c) a_byte c.args.self.now c.read.new.self _ c.in_ok-read.ensures) c.in-76.is
    ∙ next_fails a_number _ _ (reads (λ n. n) a_number c.read.new.self c.read-in-76.new.self _ _ c.in_err-read-in-76.ensures))

pub returns-in_default-clause-command : goal.returns-in_default-clause-command
returns-in_default-clause-command c =
    let l = c.in_ok-read.field-0 in
    sym (letter_is _ _ l l (reads_so (λ c. c) a_byte c.args.self.now c.read.new.self _ c.in_ok-read.ensures) refl
    ∙ no_letter _ l (λ e. omega arith) (λ e. omega arith) (λ e. omega arith) (λ e. omega arith) (λ e. omega arith) (λ e. omega arith) (λ e. omega arith) (λ e. omega arith) (λ e. omega arith) (λ e. omega arith))

pub returns-clause-command : goal.returns-clause-command
unfolding asks_by asks_to_begin asks_to_sample asks_to_preset asks_to_weigh asks_to_release asks_to_print
returns-clause-command c =
    let fields = c.match-branch-2.self in
    let command = c.match-branch-2.command in
    stands fields command c.then_some.result c.then_some.ensures ∙ elim c.match-branch-2.branch [
      | in-66+in_ok-read-in-66+in_ok-read-in-66-2+in_ok-read-in-66-3+in_ok-read-in-66-4 w ↦ ap (λ f. at_end (words_left f) (meaning command)) w.self-is ∙ ap (λ k. at_end (words_left w.read-in-66-4.new.self) (meaning k)) w.command-is ∙ sym (letter_is _ _ _ 66 (reads_so (λ c. c) a_byte c.args.self.now c.read.new.self _ c.in_ok-read.ensures) w.in-66.is
          ∙ next_is a_kind _ _ _ _ (reads_so kind_of a_kind c.read.new.self w.read-in-66.new.self _ w.in_ok-read-in-66.ensures)
          ∙ next_is a_number _ _ _ _ (reads (λ n. n) a_number w.read-in-66.new.self w.read-in-66-2.new.self _ _ w.in_ok-read-in-66-2.ensures)
          ∙ next_is a_number _ _ _ _ (reads (λ n. n) a_number w.read-in-66-2.new.self w.read-in-66-3.new.self _ _ w.in_ok-read-in-66-3.ensures)
          ∙ next_is a_number _ _ _ _ (reads (λ n. n) a_number w.read-in-66-3.new.self w.read-in-66-4.new.self _ _ w.in_ok-read-in-66-4.ensures))
      | in-83+in_ok-read-in-83 w ↦ ap (λ f. at_end (words_left f) (meaning command)) w.self-is ∙ ap (λ k. at_end (words_left w.read-in-83.new.self) (meaning k)) w.command-is ∙ ap (λ z. at_end (words_left w.read-in-83.new.self) (to_sample z)) (to_z-of_z w32 w.in_ok-read-in-83.field-0 (search rules)) ∙ sym (letter_is _ _ _ 83 (reads_so (λ c. c) a_byte c.args.self.now c.read.new.self _ c.in_ok-read.ensures) w.in-83.is
          ∙ next_is a_load _ _ _ _ (reads_so (λ z. z) a_load c.read.new.self w.read-in-83.new.self _ w.in_ok-read-in-83.ensures))
      | in-90 w ↦ ap (λ f. at_end (words_left f) (meaning command)) w.self-is ∙ ap (λ k. at_end (words_left c.read.new.self) (meaning k)) w.command-is ∙ sym (letter_is _ _ _ 90 (reads_so (λ c. c) a_byte c.args.self.now c.read.new.self _ c.in_ok-read.ensures) w.in-90.is)
      | in-84 w ↦ ap (λ f. at_end (words_left f) (meaning command)) w.self-is ∙ ap (λ k. at_end (words_left c.read.new.self) (meaning k)) w.command-is ∙ sym (letter_is _ _ _ 84 (reads_so (λ c. c) a_byte c.args.self.now c.read.new.self _ c.in_ok-read.ensures) w.in-84.is)
      | in-80+in_ok-read-in-80 w ↦ ap (λ f. at_end (words_left f) (meaning command)) w.self-is ∙ ap (λ k. at_end (words_left w.read-in-80.new.self) (meaning k)) w.command-is ∙ ap (λ z. at_end (words_left w.read-in-80.new.self) (to_press (preset_tare z))) (unsigned w.in_ok-read-in-80.field-0 (small c.read.new.self w.read-in-80.new.self _ _ w.in_ok-read-in-80.ensures)) ∙ sym (letter_is _ _ _ 80 (reads_so (λ c. c) a_byte c.args.self.now c.read.new.self _ c.in_ok-read.ensures) w.in-80.is
          ∙ next_is a_number _ _ _ _ (reads (λ n. n) a_number c.read.new.self w.read-in-80.new.self _ _ w.in_ok-read-in-80.ensures))
      | in-78 w ↦ ap (λ f. at_end (words_left f) (meaning command)) w.self-is ∙ ap (λ k. at_end (words_left c.read.new.self) (meaning k)) w.command-is ∙ sym (letter_is _ _ _ 78 (reads_so (λ c. c) a_byte c.args.self.now c.read.new.self _ c.in_ok-read.ensures) w.in-78.is)
      | in-87+in_ok-read-in-87+in_ok-read-in-87-2+in_ok-read-in-87-3+in_ok-read-in-87-4 w ↦ ap (λ f. at_end (words_left f) (meaning command)) w.self-is ∙ ap (λ k. at_end (words_left w.read-in-87-4.new.self) (meaning k)) w.command-is ∙ sym (letter_is _ _ _ 87 (reads_so (λ c. c) a_byte c.args.self.now c.read.new.self _ c.in_ok-read.ensures) w.in-87.is
          ∙ next_is a_day _ _ _ _ (reads_so (λ n. n) a_day c.read.new.self w.read-in-87.new.self _ w.in_ok-read-in-87.ensures)
          ∙ next_is a_number _ _ _ _ (reads (λ n. n) a_number w.read-in-87.new.self w.read-in-87-2.new.self _ _ w.in_ok-read-in-87-2.ensures)
          ∙ next_is a_mark _ _ _ _ (reads (λ x. x.now) a_mark w.read-in-87-2.new.self w.read-in-87-3.new.self _ _ w.in_ok-read-in-87-3.ensures)
          ∙ next_is a_number _ _ _ _ (reads (λ n. n) a_number w.read-in-87-3.new.self w.read-in-87-4.new.self _ _ w.in_ok-read-in-87-4.ensures))
      | in-79 w ↦ ap (λ f. at_end (words_left f) (meaning command)) w.self-is ∙ ap (λ k. at_end (words_left c.read.new.self) (meaning k)) w.command-is ∙ sym (letter_is _ _ _ 79 (reads_so (λ c. c) a_byte c.args.self.now c.read.new.self _ c.in_ok-read.ensures) w.in-79.is)
      | in-82+in_ok-day-in-82+in_ok-today-in-82 w ↦ ap (λ f. at_end (words_left f) (meaning command)) w.self-is ∙ ap (λ k. at_end (words_left w.read-in-82-2.new.self) (meaning k)) w.command-is ∙ sym (letter_is _ _ _ 82 (reads_so (λ c. c) a_byte c.args.self.now c.read.new.self _ c.in_ok-read.ensures) w.in-82.is
          ∙ next_is a_day _ _ _ _ (reads_so (λ n. n) a_day c.read.new.self w.read-in-82.new.self _ w.in_ok-day-in-82.ensures)
          ∙ next_is a_day _ _ _ _ (reads_so (λ n. n) a_day w.read-in-82.new.self w.read-in-82-2.new.self _ w.in_ok-today-in-82.ensures))
      | in-76+in_ok-read-in-76 w ↦ ap (λ f. at_end (words_left f) (meaning command)) w.self-is ∙ ap (λ k. at_end (words_left w.read-in-76.new.self) (meaning k)) w.command-is ∙ sym (letter_is _ _ _ 76 (reads_so (λ c. c) a_byte c.args.self.now c.read.new.self _ c.in_ok-read.ensures) w.in-76.is
          ∙ next_is a_number _ _ _ _ (reads (λ n. n) a_number c.read.new.self w.read-in-76.new.self _ _ w.in_ok-read-in-76.ensures))
    ]

pub returns-clause-place : goal.returns-clause-place
returns-clause-place c =
    let fields = c.args.self.now in
    let At : Command → Type 0 = MarkAt (fields.place + spaced (take 3 (words_left fields))) in
    then_given At c.then_some.result _ c.match-branch-2.command c.then_some.ensures (elim c.match-branch-2.branch [
      | in-66+in_ok-read-in-66+in_ok-read-in-66-2+in_ok-read-in-66-3+in_ok-read-in-66-4 w ↦ subst At (sym w.command-is) tt
      | in-83+in_ok-read-in-83 w ↦ subst At (sym w.command-is) tt
      | in-90 w ↦ subst At (sym w.command-is) tt
      | in-84 w ↦ subst At (sym w.command-is) tt
      | in-80+in_ok-read-in-80 w ↦ subst At (sym w.command-is) tt
      | in-78 w ↦ subst At (sym w.command-is) tt
      | in-87+in_ok-read-in-87+in_ok-read-in-87-2+in_ok-read-in-87-3+in_ok-read-in-87-4 w ↦
          let letter = taken fields c.read.new.self _ _ c.in_ok-read.ensures in
          let day = taken c.read.new.self w.read-in-87.new.self _ _ w.in_ok-read-in-87.ensures in
          let minute = taken w.read-in-87.new.self w.read-in-87-2.new.self _ _ w.in_ok-read-in-87-2.ensures in
          subst At (sym w.command-is) (behind_three fields c.read.new.self w.read-in-87.new.self w.read-in-87-2.new.self letter day minute)
      | in-79 w ↦ subst At (sym w.command-is) tt
      | in-82+in_ok-day-in-82+in_ok-today-in-82 w ↦ subst At (sym w.command-is) tt
      | in-76+in_ok-read-in-76 w ↦ subst At (sym w.command-is) tt
    ])
