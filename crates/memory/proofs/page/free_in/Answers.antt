use Rattle.std.proofs.Common.{not, sym, ◌∙◌, rules, tests}
use Rattle.std.proofs.lemmas.Iterator.Adapters.{option_map_id}
use Rattle.std.proofs.lemmas.Iterator.Search.{find_from_yields_List}
use Rattle.rules.specs.Rows.{is_blank}
use Rattle.rules.specs.Memory.{row_at}
use Rattle.memory.proofs.PageScans.{counts_down, free_is}
use Rattle.memory.proofs.page.free_in.Goals as goal

pub returns : goal.returns
returns g c =
    let rows = g.M.Medium.rows c.args.m.now in
    let last = find_from_yields_List (λ i. not (is_blank (row_at rows i))) _ _ _ c.rfind-last.ensures.ran (counts_down _) (λ x b q k. search (rules, tests)) in
    c.then_some.ensures
    ∙ free_is rows c.args.page.number c.rows-start.result.start c.rows-start.result.end c.map_or-free.result c.rfind-last.result _ c.rows-start.ensures.start c.rows-start.ensures.end (sym (option_map_id _) ∙ last)
    c.map_or-free.ensures (λ i p. search rules)
