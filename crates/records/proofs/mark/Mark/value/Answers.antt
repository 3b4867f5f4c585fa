use Rattle.std.proofs.Common.{◌+◌, ◌*◌, refl, ap, ◌∙◌, arith}
use Rattle.std.proofs.lemmas.List.{take_all}
use Rattle.rules.specs.Lists.{number_of}
use Rattle.records.proofs.Marking.{codes_known, code_more, mark_below}
use Rattle.records.proofs.mark.Mark.value.Goals as goal

pub loop-code-init : goal.loop-code-init
unfolding number_of
loop-code-init c = refl

pub beside-value-requires : goal.beside-value-requires
beside-value-requires c =
    let more = code_more c.args.self.codes c.loop-code.code-index c.loop-code.value c.args.self.known c.loop-code-test.true c.loop-code.invariant in
    record { few = omega arith; fits = omega (arith, more.2); room = omega (arith, more.1) }

pub loop-code-preserved : goal.loop-code-preserved
loop-code-preserved c =
    let more = code_more c.args.self.codes c.loop-code.code-index c.loop-code.value c.args.self.known c.loop-code-test.true c.loop-code.invariant in
    c.beside-value.ensures ∙ ap (λ d. c.loop-code.value * 64 + d) c.from.ensures ∙ more.0

pub returns-clause-bits : goal.returns-clause-bits
returns-clause-bits c =
    let codes = c.args.self.codes in
    let size = (codes_known codes c.args.self.known).0 in
    rw (c.loop-code.invariant ∙ ap (number_of 64 0) (take_all c.loop-code.code-index codes (omega (arith, size)))) (mark_below codes c.args.self.known)
