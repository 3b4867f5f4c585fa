use Rattle.std.proofs.Common.{arith}
use Rattle.rules.proofs.Memories.{start_fits}
use Rattle.memory.proofs.seen.Seen.rows.Goals as goal

pub overflow_mul-first_page : goal.overflow_mul-first_page
overflow_mul-first_page g c =
    let rows = g.M.Medium.rows c.args.self.now.medium.now in
    let shape = g.M.Medium.shape c.args.self.now.medium.now in
    omega (arith, c.first_page.ensures, start_fits rows shape.pages shape.whole, shape.whole, shape.most)
