use Rattle.std.proofs.Common.{◌∙◌}
use Rattle.tours.proofs.Filling.{goes_on, stops}
use Rattle.tours.proofs.visit.Visit.fill.Goals as goal

pub loop-day-preserved : goal.loop-day-preserved
loop-day-preserved g c =
    let so_far = c.loop-day.invariant in
    (goes_on g.C.Calls.stores _ _ _ _ _ _ c.args.first so_far.0 c.loop-day-test.true _ _ c.in_default.ensures.says, c.store.ensures.lender ∙ so_far.1)

pub returns-in-Err-clause-says : goal.returns-in-Err-clause-says
returns-in-Err-clause-says g c =
    stops g.C.Calls.stores _ _ _ _ _ _ c.args.first c.loop-day.invariant.0 c.loop-day-test.true _ _ _ _ c.saturating_add-end.ensures c.in-Err.ensures.says

pub returns-in_err-tell_refused-clause-says : goal.returns-in_err-tell_refused-clause-says
returns-in_err-tell_refused-clause-says g c =
    stops g.C.Calls.stores _ _ _ _ _ _ c.args.first c.loop-day.invariant.0 c.loop-day-test.true _ _ _ _ c.saturating_add-end.ensures c.in-Err.ensures.says
