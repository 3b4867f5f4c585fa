use Rattle.std.proofs.Common.{◌-◌, ap, ◌∙◌}
use lib.Bits.{bit_and}
use Rattle.std.proofs.lemmas.Nat.{one_shl, and_mask}
use Rattle.records.proofs.bits.low_bits.Goals as goal

pub returns : goal.returns
returns c = ap (λ n. bit_and c.args.word (n - 1)) (one_shl c.args.bits 64 c.requires) ∙ and_mask c.args.word c.args.bits
