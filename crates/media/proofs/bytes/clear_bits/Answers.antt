use Rattle.std.proofs.Common.{◌∙◌, sym, ap, length, get_or, arith}
use Rattle.std.proofs.lemmas.List.{ext_get_or}
use Rattle.rules.proofs.BlankRows.{blank_byte, blank_length}
use Rattle.media.proofs.bytes.clear_bits.Goals as goal

pub loop-i-init : goal.loop-i-init
loop-i-init c = (ap length c.requires ∙ blank_length, λ k None. absurd (omega arith), λ k from h. ap (λ r. get_or r k 0) c.requires ∙ blank_byte k h)

pub returns : goal.returns
returns c = ext_get_or 0 c.loop-i.row c.args.bytes.now (c.loop-i.invariant.0 ∙ sym c.told-bytes) (λ i h. c.loop-i.invariant.1 i (omega (arith, c.loop-i.invariant.0)))
