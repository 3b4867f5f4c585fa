use Rattle.std.proofs.Common.{◌≡◌, ◌^◌, ◌<◌, take, drop}
use Rattle.rules.specs.Terminal.{all_digits, written}
use Rattle.rules.proofs.decimal.read_decimal.Given as goal

abbrev pub invariant-loop-byte : goal.invariant-loop-byte
invariant-loop-byte l =
    (l.number ≡ written (take l.byte-index l.text)) × (l.number < 10 ^ l.byte-index)
    × (all_digits l.text ≡ all_digits (drop l.byte-index l.text))
