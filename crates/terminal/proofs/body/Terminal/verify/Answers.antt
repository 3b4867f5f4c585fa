use Rattle.std.proofs.Common.{[], ◌∷◌, sym, ap, ◌∙◌, arith, rules}
use Rattle.std.proofs.lemmas.Bool.Decides.{nat_tests}
use Rattle.rules.specs.Terminal.{done, ◌at_any◌, number_in, difference, line_of}
use Rattle.memory.specs.Faults.{looks_up}
use Rattle.records.specs.RecordsOf.{record_of}
use Rattle.terminal.specs.Worlds.{world}
use Rattle.terminal.proofs.LookUps.{is_found, is_refused, was_read}
use Rattle.terminal.proofs.body.Terminal.verify.Goals as goal

pub returns-in_err-found : goal.returns-in_err-found
returns-in_err-found g c =
    let rows = g.M.Medium.rows c.args.self.now.medium in
    let text = c.args.text.now in
    let w = world g.M.Medium.rows g.M.Medium.count c.args.self.now in
    let form = was_read _ _ _ _ c.in_ok-number.ensures.ok_part c.line_number.ensures in
    rw form.0 (is_refused rows (number_in text) _ _ _ (28 at_any difference 0 text (line_of rows (number_in text)) ∷ []) w (done, w) (ap (looks_up rows) (sym form.1) ∙ c.in_err-found.ensures) ∙ search rules)

pub returns-in-Some : goal.returns-in-Some
returns-in-Some g c =
    let form = was_read _ _ _ _ c.in_ok-number.ensures.ok_part c.line_number.ensures in
    let found = is_found (g.M.Medium.rows c.args.self.now.medium) _ (record_of c.in_ok-found.found) c.in_ok-found.ensures in
    grind (arith, nat_tests)

pub returns-in-None : goal.returns-in-None
returns-in-None g c =
    let form = was_read _ _ _ _ c.in_ok-number.ensures.ok_part c.line_number.ensures in
    let found = is_found (g.M.Medium.rows c.args.self.now.medium) _ (record_of c.in_ok-found.found) c.in_ok-found.ensures in
    grind (arith, nat_tests)
