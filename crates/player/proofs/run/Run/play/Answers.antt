use Rattle.std.proofs.Common.{refl, ◌∙◌}
use Rattle.player.proofs.Walks.{line_written, no_more_written}
use Rattle.player.proofs.run.Run.play.Goals as goal

pub loop-item-preserved : goal.loop-item-preserved
loop-item-preserved g c = (
  line_written _ _ _ _ _ _ _ _ _ _ _ _ c.in-Some.ensures.steps.0 c.play.ensures.says refl c.in_ok-write_to.ensures
      ∙ c.loop-item.invariant.0,
  c.play.ensures.lender ∙ c.loop-item.invariant.1,
)

pub returns-in_err-write_to-clause-lender : goal.returns-in_err-write_to-clause-lender
returns-in_err-write_to-clause-lender g c = c.play.ensures.lender ∙ c.loop-item.invariant.1

pub returns-clause-writes : goal.returns-clause-writes
returns-clause-writes g c = no_more_written _ _ _ _ _ _ _ c.in-None.ensures.steps.0 c.loop-item.invariant.0

pub returns-clause-lender : goal.returns-clause-lender
returns-clause-lender g c = c.loop-item.invariant.1
