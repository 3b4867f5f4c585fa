use Rattle.rules.proofs.Holdings.{numbers_differ}
use Rattle.rules.proofs.numbers_differ.Goals as goal

pub returns : goal.returns
returns c = numbers_differ
