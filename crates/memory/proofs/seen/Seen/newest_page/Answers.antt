use Rattle.std.proofs.Common.{sym, ap, ◌∙◌}
use Rattle.std.specs.Prelude.{option_map}
use Rattle.memory.specs.Entries.{entry_of}
use Rattle.memory.proofs.NextRows.{page_fits}
use Rattle.memory.proofs.seen.Seen.newest_page.Goals as goal

pub invariant_of-result : goal.invariant_of-result
invariant_of-result g c =
    let m = c.args.self.now.medium.now in
    record { within = page_fits (g.M.Medium.rows m) (g.M.Medium.shape m) _ _ _ (sym c.args.self.now.known ∙ ap (option_map entry_of) c.in_ok-entry.was) c.page.ensures }
