use Rattle.memory.proofs.Judged.{blank_told}
use Rattle.memory.proofs.reading.is_blank_at.Goals as goal

pub returns : goal.returns
returns g c = blank_told (g.M.Medium.rows c.args.m.now) c.args.row c.bytes_of.result c.is_some_and.result c.bytes_of.ensures c.is_some_and.ensures
