use Rattle.rules.proofs.TraceLaws.{lines_joined}
use Rattle.rules.proofs.lines_are_the_trace.Goals as goal

pub returns : goal.returns
returns c = lines_joined
