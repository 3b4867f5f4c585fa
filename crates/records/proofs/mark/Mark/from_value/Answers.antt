use Rattle.std.proofs.Common.{cond, ap, ◌∙◌, None, Some}
use Rattle.rules.specs.Lists.{digits_of}
use Rattle.rules.specs.Records.{lawful_mark}
use Rattle.records.proofs.DigitsOut.{from_zero}
use Rattle.records.proofs.mark.Mark.from_value.Goals as goal

pub returns : goal.returns
returns c = c.from_codes.ensures ∙ ap (λ m. cond (lawful_mark m) (Some m) None) (c.digits.ensures ∙ from_zero (digits_of 64 8 c.args.value))
