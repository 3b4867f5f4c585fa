use Rattle.std.proofs.Common.{◌≡◌, ℕ, ◌+◌, ◌-◌, sym, ap, ◌∙◌, arith}
use Rattle.memory.specs.Entries.{entry_in, better_of}
use Rattle.memory.proofs.Scans.{best_from, from_end, from_before, from_start}
use Rattle.memory.proofs.reading.newest.Goals as goal

pub loop-row-init : goal.loop-row-init
loop-row-init g c = from_end (g.M.Medium.rows c.args.m.now) _ (omega (arith, c.size-row.ensures))

pub loop-row-preserved : goal.loop-row-preserved
loop-row-preserved g c =
    let rows = g.M.Medium.rows c.args.m.now in
    let row : ℕ = c.loop-row.row - 1 in
    let next : row + 1 ≡ c.loop-row.row = omega (arith, c.loop-row-test.true) in
    c.better-best.ensures ∙ ap (better_of (entry_in rows row)) (c.loop-row.invariant ∙ ap (best_from rows) (sym next))
    ∙ sym (from_before rows row (omega (arith, c.size-row.ensures, c.loop-row.auto.row, c.loop-row-test.true)))

pub returns : goal.returns
returns g c =
    let rows = g.M.Medium.rows c.args.m.now in
    let done : c.loop-row.row ≡ 0 = omega (arith, c.loop-row-test.false) in
    c.loop-row.invariant ∙ ap (best_from rows) done ∙ from_start rows
