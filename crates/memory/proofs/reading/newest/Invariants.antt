use Rattle.std.proofs.Common.{◌≡◌}
use Rattle.std.specs.Prelude.{option_map}
use Rattle.memory.specs.Entries.{entry_of}
use Rattle.memory.proofs.Scans.{best_from}
use Rattle.memory.proofs.reading.newest.Given as goal

-- the best of the rows behind
abbrev pub invariant-loop-row : goal.invariant-loop-row
invariant-loop-row g l = option_map entry_of l.best ≡ best_from (g.M.Medium.rows l.m) l.row
