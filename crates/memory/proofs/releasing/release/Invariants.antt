use Rattle.std.proofs.Common.{◌≡◌, ◌+◌, ◌%◌, ◌^◌, take}
use Rattle.rules.specs.Memory.{erased}
use Rattle.memory.proofs.releasing.release.Given as goal

-- so many pages are erased, one write each
abbrev pub invariant-loop-page : goal.invariant-loop-page
invariant-loop-page g l =
    let meaning = g.M.Medium in
    (meaning.rows l.m ≡ erased (meaning.rows l.initial.m) (take l.page-index l.pages))
    × (meaning.count l.m ≡ (meaning.count l.initial.m + l.page-index) % 2 ^ 32) × (meaning.lender l.m ≡ meaning.lender l.initial.m)
