use Rattle.rules.specs.Tickets.{decimal}
use Rattle.records.proofs.line.decimal.Goals as goal

pub returns : goal.returns
unfolding decimal
returns g c = c.digits.ensures
