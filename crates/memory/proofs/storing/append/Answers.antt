use Rattle.memory.proofs.Storings.{next_row_takes, row_there}
use Rattle.memory.proofs.storing.append.Goals as goal

pub returns-in_err-program-clause-says : goal.returns-in_err-program-clause-says
returns-in_err-program-clause-says g c =
    let rows = g.M.Medium.rows c.args.m.now in
    absurd (next_row_takes rows _ _ _ _ _ _ _ (row_there rows c.next_row.result c.in_ok-row.row _ c.next_row.ensures c.in_ok-row.ensures.value) c.in_err-program.ensures.says)
