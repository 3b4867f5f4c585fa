use Rattle.std.proofs.Common.{◌≡◌, length, take, ap, ◌∙◌, arith, rules}
use Rattle.std.proofs.lemmas.List.{take_at}
use Rattle.std.proofs.lemmas.Bool.Decides.{nat_tests}
use Rattle.records.specs.RecordsOf.{record_of}
use Rattle.terminal.proofs.LookUps.{is_found}
use Rattle.terminal.proofs.body.Terminal.print.Goals as goal

pub returns-clause-says : goal.returns-clause-says
returns-clause-says g c =
    let found = is_found (g.M.Medium.rows c.args.self.now.medium) _ (record_of c.in_ok-found.found) c.in_ok-found.ensures in
    let len : length c.line.result ≡ 76 = search rules in
    let text : take 76 c.fill.new.out ≡ c.line.result = ap (take 76) c.fill.ensures ∙ take_at c.line.result _ 76 len in
    grind (arith, nat_tests)
