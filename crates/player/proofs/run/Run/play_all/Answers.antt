use Rattle.std.proofs.Common.{◌≡◌, IfOk, sym, refl, ◌∙◌, subst}
use Rattle.std.proofs.lemmas.List.{append-nil}
use Rattle.player.proofs.Walks.{line_written, no_more_written}
use Rattle.player.proofs.run.Run.play_all.Goals as goal

pub returns-in-Ok : goal.returns-in-Ok
returns-in-Ok c =
    let all =
    line_written _ _ _ _ _ _ _ _ _ _ c.loop-item.self.out.items _ c.in-Some.ensures.item c.in-Ok.ensures.says refl (sym (append-nil c.loop-item.self.out.items))
    ∙ c.loop-item.invariant in
    subst (λ z. IfOk c.play_from.result (λ v. v.items ≡ z)) all c.play_from.ensures

pub loop-item-preserved : goal.loop-item-preserved
loop-item-preserved c =
    line_written _ _ _ _ _ _ _ _ _ _ _ _ c.in-Some.ensures.item c.in-Err.ensures.says refl c.in_ok-write_to-in-Err.ensures
    ∙ c.loop-item.invariant

pub returns : goal.returns
returns c = no_more_written _ _ _ _ _ _ _ c.in_default.ensures.item c.loop-item.invariant
