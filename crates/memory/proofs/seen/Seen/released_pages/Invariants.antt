use Rattle.std.proofs.Common.{◌≡◌, ◌≤◌, ◌++◌, drop, length}
use Rattle.rules.specs.Memory.{pages, newest, erasable, released_pages}
use Rattle.rules.proofs.Rounds.{turn}
use Rattle.rules.proofs.Memories.{first_page}
use Rattle.memory.specs.Releases.{pages_of}
use Rattle.memory.proofs.seen.Seen.released_pages.Given as goal

-- those found so far and those that are left make up the release
abbrev pub invariant-loop-number : goal.invariant-loop-number
invariant-loop-number g l =
    let rows = g.M.Medium.rows l.self.medium.now in
    (released_pages rows l.day ≡ pages_of l.found ++ erasable rows l.day (drop (length l.yielded) (turn (first_page (newest rows)) (pages rows))))
    × (length (pages_of l.found) ≤ length l.yielded)
