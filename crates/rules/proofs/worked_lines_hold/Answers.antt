use Rattle.rules.proofs.WorkedCases.{worked_lines}
use Rattle.rules.proofs.worked_lines_hold.Goals as goal

pub returns : goal.returns
returns c = worked_lines
