use Rattle.std.proofs.Common.{◌≡◌, ℕ, true, false, ◌&&◌, sym, ap, ◌∙◌, take, drop, arith}
use Rattle.std.proofs.lemmas.Bool.{lt-ltb}
use Rattle.std.proofs.Math.Bool.{and-false}
use Rattle.std.specs.Prelude.{nat_lt, ◌==◌, nat_le, unwrap_or}
use Rattle.std.specs.List.{list_all}
use Rattle.records.proofs.Marking.{mark_by, parts_at}
use Rattle.records.proofs.marks.is_mark.Goals as goal
use Rattle.records.proofs.marks.is_mark.Goals.{then-len-gt0, else-len-gt0}

never : {A : Type 0} → false ≡ true → A
never e = cc

pub returns-then-are_known : goal.returns-then-are_known
returns-then-are_known c =
    let m = c.args.codes.now in
    let len : ℕ = c.unwrap_or-len.result in
    let first = c.unwrap_or-len.ensures ∙ ap (λ o. unwrap_or o 8) c.first_space.ensures in
    elim c.if-len-gt0.branch [
      | then-len-gt0 w ↦
          let known : list_all (λ d. nat_le d 36) (take len m) ≡ true = ap (list_all (λ d. nat_le d 36)) (sym c.split_at.ensures.front) ∙ sym w.are_known.ensures ∙ sym w.value-is ∙ c.if-are_known.true in
          c.are_spaces.ensures ∙ ap (list_all (λ d. d == 0)) c.split_at.ensures.back
          ∙ sym (mark_by m len c.told-codes first ∙ ap (λ b. b && parts_at len m) (lt-ltb 0 len w.if-len-gt0.true) ∙ ap (λ b. b && list_all (λ d. d == 0) (drop len m)) known)
      | else-len-gt0 w ↦ let None : len ≡ 0 = omega arith in never (ap (nat_lt 0) (sym None) ∙ sym w.value-is ∙ c.if-are_known.true)
    ]

pub returns-else-are_known : goal.returns-else-are_known
returns-else-are_known c =
    let m = c.args.codes.now in
    let len : ℕ = c.unwrap_or-len.result in
    let first = c.unwrap_or-len.ensures ∙ ap (λ o. unwrap_or o 8) c.first_space.ensures in
    c.if-are_known.false
    ∙ sym (mark_by m len c.told-codes first ∙ (elim c.if-len-gt0.branch [
      | then-len-gt0 w ↦
          let known : list_all (λ d. nat_le d 36) (take len m) ≡ false = ap (list_all (λ d. nat_le d 36)) (sym c.split_at.ensures.front) ∙ sym w.are_known.ensures ∙ sym w.value-is ∙ c.if-are_known.false in
          ap (λ b. nat_lt 0 len && (b && list_all (λ d. d == 0) (drop len m))) known ∙ and-false (nat_lt 0 len)
      | else-len-gt0 w ↦ let None : len ≡ 0 = omega arith in ap (λ n. nat_lt 0 n && parts_at len m) None
    ]))
