use Rattle.std.proofs.Common.{refl, arith}
use Rattle.media.proofs.Ends.{put_inside}
use Rattle.media.proofs.sectors.write_row.Goals as goal

pub returns-clause-bytes : goal.returns-clause-bytes
returns-clause-bytes c =
    put_inside c.args.cells.now.bytes.now c.rewrite.new.cells.bytes.now c.page_at-sector.result c.copy_from_slice.new.self _ c.args.bytes.now _ _ c.args.start _ c.rewrite.ensures.bytes refl c.page_at-sector.ensures c.copy_from_slice.ensures.after
    c.told-bytes (omega arith) (omega arith) (omega (arith, c.requires.row)) (omega (arith, c.args.cells.now.whole, c.requires.inside))
