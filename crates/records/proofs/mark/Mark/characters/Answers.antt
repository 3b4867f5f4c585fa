use Rattle.std.proofs.Common.{◌≤◌, arith, rules}
use Rattle.std.proofs.ByRecursion.{All-get_or}
use Rattle.rules.specs.Records.{character_of}
use Rattle.records.proofs.Marking.{codes_known, unchanged, one_changed}
use Rattle.records.proofs.mark.Mark.characters.Goals as goal

pub character_of-requires : goal.character_of-requires
character_of-requires c =
    let l = c.loop-code in
    let codes = c.args.self.codes in
    let known = codes_known codes c.args.self.known in
    omega (arith, unchanged character_of codes l.code-items l.code-index l.invariant (omega (arith, known.0)), All-get_or (λ d. d ≤ 36) codes l.code-index 0 (omega (arith, known.0)) known.1)

pub loop-code-preserved : goal.loop-code-preserved
loop-code-preserved c =
    let l = c.loop-code in
    let known = codes_known c.args.self.codes c.args.self.known in
    one_changed character_of c.args.self.codes l.code-items l.code-index l.invariant _ (omega (arith, known.0)) (search rules) c.character_of.ensures
