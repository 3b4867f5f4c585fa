use Rattle.memory.proofs.Storings.{next_row_takes}
use Rattle.memory.proofs.storing.write.Goals as goal

pub returns-in_err-program-clause-says : goal.returns-in_err-program-clause-says
returns-in_err-program-clause-says g c =
    absurd (next_row_takes (g.M.Medium.rows c.args.m.now) _ _ _ _ _ _ _ c.requires.0 c.in_err-program.ensures.says)
