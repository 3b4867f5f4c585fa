use Rattle.std.proofs.Common.{◌≡◌, ◌-◌, ◌∙◌, arith, rules, tests}
use Rattle.std.proofs.lemmas.Iterator.Search.{any_from_yields_List}
use Rattle.rules.specs.Memory.{rows_of}
use Rattle.memory.specs.Entries.{entry_in}
use Rattle.memory.proofs.PageScans.{counts_up, is_dated, dated_rows}
use Rattle.memory.proofs.page.dated_from.Goals as goal

pub returns : goal.returns
returns g c =
    let rows = g.M.Medium.rows c.args.m.now in
    let long : c.rows.result.end - c.rows.result.start ≡ 16 = omega (arith, c.rows.ensures.start, c.rows.ensures.end) in
    any_from_yields_List (λ i. is_dated c.args.day (entry_in rows i)) _ _ _ c.any.ensures.ran (counts_up _ _ _ c.rows.ensures.start long) (λ x b q k. search (rules, tests))
    ∙ dated_rows rows c.args.day (rows_of c.args.page.number)
