use Rattle.std.proofs.Common.{rules}
use Rattle.memory.proofs.NextRows.{next_told}
use Rattle.memory.proofs.seen.Seen.next_row.Goals as goal

pub returns : goal.returns
returns g c =
    let m = c.args.self.now.medium.now in
    next_told (g.M.Medium.rows m) (g.M.Medium.shape m) c.newest_page.result c.and_then.result c.or_else.result _ _ c.newest_page.ensures
    c.and_then.ensures (λ p h. search rules) c.or_else.ensures (λ h. search rules)
