use Rattle.std.proofs.Common.{◌≡◌, ◌-◌, ◌∙◌, arith, rules, tests}
use Rattle.std.proofs.lemmas.Iterator.Search.{all_from_yields_List}
use Rattle.rules.specs.Rows.{is_blank}
use Rattle.rules.specs.Memory.{row_at, rows_of}
use Rattle.memory.proofs.PageScans.{counts_up, blank_rows}
use Rattle.memory.proofs.page.all_blank.Goals as goal

pub returns : goal.returns
returns g c =
    let rows = g.M.Medium.rows c.args.m.now in
    let long : c.rows.result.end - c.rows.result.start ≡ 16 = omega (arith, c.rows.ensures.start, c.rows.ensures.end) in
    all_from_yields_List (λ i. is_blank (row_at rows i)) _ _ _ c.all.ensures.ran (counts_up _ _ _ c.rows.ensures.start long) (λ x b q k. search (rules, tests))
    ∙ blank_rows rows (rows_of c.args.page.number)
