use Rattle.std.proofs.Common.{◌≡◌, sym, ap, ◌∙◌, rules, None, Some}
use Rattle.rules.specs.Memory.{newest, next_row}
use Rattle.rules.specs.Terminal.{gives, refuses}
use Rattle.records.specs.WeighingsOf.{weighing_of}
use Rattle.memory.specs.Faults.{fault_number, fault_place, orders}
use Rattle.memory.specs.Stores.{follows, store_told}
use Rattle.memory.proofs.Storings.{checked, store_refuses, store_goes_on, row_there, row_missing}
use Rattle.memory.proofs.storing.store.Goals as goal

pub returns-in_err-weighed-clause-says : goal.returns-in_err-weighed-clause-says
returns-in_err-weighed-clause-says g c =
    let rows = g.M.Medium.rows c.args.m.now in
    let ordered = checked rows (c.in_ok-check.ensures ∙ ap (λ m. orders (g.M.Medium.rows m)) c.of-seen.ensures) in
    let as_found = ap (λ m. follows (newest (g.M.Medium.rows m)) (weighing_of c.args.weighing)) (sym c.of-seen.ensures) in
    let count = g.M.Medium.count c.args.m.now in
    let fault = c.in_err-weighed.field-0.0 in
    let same : store_told c.from_residual-in_err-weighed.result ≡ refuses (fault_number fault) (fault_place fault) = search rules in
    store_refuses rows count (weighing_of c.args.weighing) _ _ _ ordered (as_found ∙ c.in_err-weighed.ensures.says) ∙ ap (λ a. (a, (rows, count))) (sym same)

pub returns-in_err-row-clause-says : goal.returns-in_err-row-clause-says
returns-in_err-row-clause-says g c =
    let rows = g.M.Medium.rows c.args.m.now in
    let ordered = checked rows (c.in_ok-check.ensures ∙ ap (λ m. orders (g.M.Medium.rows m)) c.of-seen.ensures) in
    let as_found = ap (λ m. follows (newest (g.M.Medium.rows m)) (weighing_of c.args.weighing)) (sym c.of-seen.ensures) in
    let count = g.M.Medium.count c.args.m.now in
    let at_row = ap (λ m. next_row (g.M.Medium.rows m)) c.of-seen.ensures in
    let full = row_missing rows c.next_row.result _ _ (c.next_row.ensures ∙ at_row) c.in_err-row.ensures.value in
    let same : store_told c.from_residual-in_err-row.result ≡ refuses 24 0 = search rules in
    store_goes_on rows count (weighing_of c.args.weighing) _ None ordered (as_found ∙ c.in_ok-weighed.ensures.says) full ∙ ap (λ a. (a, (rows, count))) (sym same)

pub returns-clause-says : goal.returns-clause-says
returns-clause-says g c =
    let rows = g.M.Medium.rows c.args.m.now in
    let ordered = checked rows (c.in_ok-check.ensures ∙ ap (λ m. orders (g.M.Medium.rows m)) c.of-seen.ensures) in
    let as_found = ap (λ m. follows (newest (g.M.Medium.rows m)) (weighing_of c.args.weighing)) (sym c.of-seen.ensures) in
    let at_row = ap (λ m. next_row (g.M.Medium.rows m)) c.of-seen.ensures in
    let next = row_there rows c.next_row.result c.in_ok-row.row _ (c.next_row.ensures ∙ at_row) c.in_ok-row.ensures.value in
    store_goes_on rows (g.M.Medium.count c.args.m.now) (weighing_of c.args.weighing) _ (Some c.in_ok-row.row) ordered (as_found ∙ c.in_ok-weighed.ensures.says) next
    ∙ ap (λ p. (gives c.in_ok-weighed.weighed.number, (p.1, p.2))) c.in_ok-write.ensures.says
