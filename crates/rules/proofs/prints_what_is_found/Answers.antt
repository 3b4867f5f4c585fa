use Rattle.rules.proofs.VerifyLaws.{prints_what_is_found}
use Rattle.rules.proofs.prints_what_is_found.Goals as goal

pub returns : goal.returns
returns c = prints_what_is_found
