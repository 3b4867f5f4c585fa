use Rattle.std.proofs.Common.{◌≡◌, drop, length}
use Rattle.std.specs.Prelude.{option_map}
use Rattle.rules.specs.Memory.{intact_in, disorder}
use Rattle.rules.proofs.Rounds.{turn}
use Rattle.rules.proofs.Memories.{start}
use Rattle.records.specs.RecordsOf.{record_of}
use Rattle.memory.proofs.Turns.{disorder_from}
use Rattle.memory.proofs.seen.Seen.check.Given as goal

-- the first break is among the records that are left of the round, after the last one
abbrev pub invariant-loop-row : goal.invariant-loop-row
invariant-loop-row g l =
    let rows = g.M.Medium.rows l.self.medium.now in
    disorder rows ≡ disorder_from (option_map record_of l.last) (intact_in rows (drop (length l.yielded) (turn (start rows) (length rows))))
