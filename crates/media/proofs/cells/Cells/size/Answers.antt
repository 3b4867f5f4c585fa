use Rattle.rules.proofs.MediaLaws.{pages_are}
use Rattle.media.proofs.cells.Cells.size.Goals as goal

pub returns-clause-rows : goal.returns-clause-rows
returns-clause-rows c = pages_are c.args.self.now.bytes.now c.args.self.now.whole
