use Rattle.std.proofs.Common.{◌≡◌, ◌*◌, ◌%◌, ◌^◌, ap, ◌∙◌, mod-eq_of_lt, arith}
use lib.Bits.{bit_or}
use Rattle.std.proofs.lemmas.Nat.{or_shifted}
use Rattle.records.proofs.bits.beside.Goals as goal

pub returns : goal.returns
returns c =
    let whole : (c.args.high * 2 ^ c.args.bits) % 2 ^ 64 ≡ c.args.high * 2 ^ c.args.bits = mod-eq_of_lt (omega (arith, c.requires.room)) in
    ap (λ n. bit_or n c.args.low) whole ∙ or_shifted c.args.high c.args.bits c.args.low c.requires.fits
