use Rattle.std.proofs.Common.{rules}
use Rattle.rules.proofs.Runs.{keeps_records}
use Rattle.rules.proofs.VerifyLaws.{verifies_what_is_found, prints_what_is_found}
use Rattle.rules.proofs.FirstStore.{first_store_is_accepted}
use Rattle.terminal.proofs.body.Terminal.open.Goals as goal

pub returns : goal.returns
returns g c = record {
  opens = search rules;
  medium = search rules;
  law = keeps_records;
  confirms = verifies_what_is_found;
  prints = prints_what_is_found;
  accepts = first_store_is_accepted;
}
