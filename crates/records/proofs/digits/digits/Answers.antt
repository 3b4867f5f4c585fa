use Rattle.std.proofs.Common.{◌≡◌, ◌+◌, ◌-◌, ◌%◌, ◌++◌, [], sym, ap, ◌∙◌, arith}
use Rattle.std.proofs.lemmas.List.{append-nil, length-set, length-replicate}
use Rattle.records.proofs.DigitsOut.{characters, digit_out, digits_out}
use Rattle.records.proofs.digits.digits.Goals as goal

pub loop-digit-init : goal.loop-digit-init
loop-digit-init g c =
    let v = c.args.value in
    let whole : g.row.N ≡ g.row.N - 0 = omega arith in
    (sym (append-nil _) ∙ ap (λ n. characters g.row.BASE g.row.ZERO n v ++ []) whole, length-replicate g.row.N 0)

pub loop-digit-preserved : goal.loop-digit-preserved
loop-digit-preserved g c =
    let l = c.loop-digit in (
      digit_out g.row.BASE g.row.ZERO g.row.N l.digit-index c.args.value l.rest l.digit-items c.loop-digit-test.true l.invariant.1 l.invariant.0,
      length-set l.digit-items l.digit-index (g.row.ZERO + l.rest % g.row.BASE) ∙ l.invariant.1,
    )

pub returns : goal.returns
returns g c =
    let l = c.loop-digit in
    c.reverse.ensures.after ∙ digits_out g.row.BASE g.row.ZERO g.row.N l.digit-index c.args.value l.rest l.digit-items c.loop-digit-test.false l.invariant.1 l.invariant.0
