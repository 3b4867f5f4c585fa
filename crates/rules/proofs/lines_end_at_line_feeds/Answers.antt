use Rattle.rules.proofs.TraceLaws.{lines_end}
use Rattle.rules.proofs.lines_end_at_line_feeds.Goals as goal

pub returns : goal.returns
returns c = lines_end
