use Rattle.std.proofs.Common.{false, ◌∙◌, rules}
use Rattle.memory.proofs.Releases.{stops_told, stops_dated}
use Rattle.memory.proofs.seen.Seen.stops_at.Goals as goal

pub returns-then-dated_from : goal.returns-then-dated_from
returns-then-dated_from g c = c.if-dated_from.true ∙ stops_dated (g.M.Medium.rows c.args.self.now.medium.now) c.args.day c.args.page.number c.if-dated_from.ensures

pub returns-else-dated_from : goal.returns-else-dated_from
returns-else-dated_from g c =
    stops_told (g.M.Medium.rows c.args.self.now.medium.now) c.args.day c.args.page.number false c.is_some_and.result c.args.self.now.newest _ c.if-dated_from.ensures
    c.args.self.now.known c.is_some_and.ensures (λ e p. search rules)
