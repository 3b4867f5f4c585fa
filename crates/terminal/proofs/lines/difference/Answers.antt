use Rattle.std.proofs.Common.{◌∙◌, rules}
use Rattle.terminal.proofs.Differences.{difference_of_zip}
use Rattle.terminal.proofs.lines.difference.Goals as goal

pub returns : goal.returns
returns c = c.first_difference.ensures ∙ difference_of_zip 0 c.args.text.now c.args.line.now (search rules)
