use Rattle.std.proofs.Common.{rules, tests}
use Rattle.memory.proofs.PageScans.{free_kept}
use Rattle.memory.proofs.next.free_in_empty.Goals as goal

pub returns : goal.returns
returns g c =
    free_kept (g.M.Medium.rows c.args.m.now) c.args.page.number c.free_in.result c.filter.result _ c.free_in.ensures c.filter.ensures
    (λ i b p. search (rules, tests))
