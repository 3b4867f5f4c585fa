use Rattle.std.proofs.Common.{ap, ◌∙◌}
use Rattle.std.specs.Result.{result_ok}
use Rattle.rows.proofs.Decoded.{row_told}
use Rattle.rows.proofs.parse.parse_row.Goals as goal

pub returns : goal.returns
returns c = c.ok.ensures.value ∙ ap result_ok c.from_hex.ensures ∙ row_told c.args.line.now
