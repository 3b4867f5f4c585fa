use Rattle.std.proofs.Common.{rules}
use Rattle.records.proofs.PackedBits.{all_written}
use Rattle.records.proofs.bits.Writer.finish.Goals as goal

pub returns : goal.returns
returns c =
    let self = c.args.self in
    all_written self.words self.next self.held self.bits (search rules) self.fits self.few self.within c.requires
