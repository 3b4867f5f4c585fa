use Rattle.rules.proofs.NextRowLaws.{next_row_is_blank}
use Rattle.rules.proofs.next_row_is_blank.Goals as goal

pub returns : goal.returns
returns c = next_row_is_blank
