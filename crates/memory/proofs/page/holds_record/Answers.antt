use Rattle.std.proofs.Common.{◌-◌, refl, ◌∙◌, rules, tests}
use Rattle.std.proofs.lemmas.Iterator.Search.{any_from_yields_List}
use Rattle.rules.specs.Lists.{from}
use Rattle.memory.specs.Entries.{entry_in}
use Rattle.memory.proofs.PageScans.{counts_up, is_there, record_rows}
use Rattle.memory.proofs.page.holds_record.Goals as goal

pub returns : goal.returns
returns g c =
    let rows = g.M.Medium.rows c.args.m.now in
    any_from_yields_List (λ i. is_there (entry_in rows i)) _ _ _ c.any.ensures.ran (counts_up _ _ _ refl refl) (λ x b q k. search (rules, tests))
    ∙ record_rows rows (from c.args.rows.start (c.args.rows.end - c.args.rows.start))
