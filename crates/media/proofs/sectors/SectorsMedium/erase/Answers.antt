use Rattle.std.proofs.Common.{replicate, refl}
use Rattle.media.proofs.Ends.{erase_ends}
use Rattle.media.proofs.sectors.SectorsMedium.erase.Goals as goal

pub returns-clause-says : goal.returns-clause-says
returns-clause-says c =
    let at = c.in_ok-start.ensures in
    erase_ends c.args.self.now.cells.bytes.now c.rewrite.new.cells.bytes.now (replicate 512 255) _ c.args.page _ c.in_ok-start.start 512 512 c.rewrite.ensures.bytes at.start at.inside refl refl refl c.rewrite.ensures.once.0 c.args.self.now.cells.whole
