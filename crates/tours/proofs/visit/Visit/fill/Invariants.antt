use Rattle.std.proofs.Common.{◌≡◌, ◌-◌}
use Rattle.tours.specs.Fills.{fills_for}
use Rattle.tours.proofs.visit.Visit.fill.Given as goal

-- the days that are left, stored in what is there now, make what all days make of what was there at first
abbrev pub invariant-loop-day : goal.invariant-loop-day
invariant-loop-day g l =
    let meaning = g.M.Medium in
    (fills_for (l.end - l.day-counter) g.C.Calls.stores (meaning.rows l.self.medium) (meaning.count l.self.medium) l.day-counter
    ≡ fills_for (l.end - l.fn.first) g.C.Calls.stores (meaning.rows l.initial.self.medium) (meaning.count l.initial.self.medium) l.fn.first)
    × (meaning.lender l.self.medium ≡ meaning.lender l.initial.self.medium)
