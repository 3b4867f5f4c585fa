use Rattle.std.proofs.Common.{◌≡◌, [], ◌++◌, sym, ap, subst, ◌∙◌, arith, rules}
use Rattle.rules.specs.Settings.{Passed}
use Rattle.rules.specs.Terminal.{done, pending, with_state, weigh_refusals}
use Rattle.rules.proofs.Refusals.{passes_unless}
use Rattle.rules.proofs.Weighings.{TareFits, weighed_lawful}
use Rattle.loads.proofs.GoodSettings.{are_good}
use Rattle.records.specs.WeighingsOf.{weighing_says}
use Rattle.indicator.specs.Meaning.{meaning}
use Rattle.indicator.specs.StatesOf.{state_of}
use Rattle.indicator.specs.Answers.{powered, first_of, entry_refusals, ready_refusals, load_refusals}
use Rattle.indicator.specs.Entries.{entries_of}
use Rattle.indicator.proofs.Tables.{past, stopped}
use Rattle.indicator.proofs.Weighed.{tare_fits, same_record, is_made, is_asked, nothing_refuses, becomes_pending}
use Rattle.indicator.proofs.body.Indicator.weigh.Goals as goal

pub returns-in_err-gross : goal.returns-in_err-gross
returns-in_err-gross c = λ rows writes.
    let i = c.args.self.now in
    let w = powered rows writes i in
    past (entry_refusals (entries_of c.args.entered)) (ready_refusals i ++ load_refusals i) w _ (sym c.in_ok-mark.ensures.says)
    ∙ past (ready_refusals i) (load_refusals i) w _ (sym c.in_ok-check_ready.ensures)
    ∙ stopped (load_refusals i) [] w _ _ _ (sym c.in_err-gross.ensures.says) ∙ search rules

pub returns : goal.returns
returns c = λ rows writes.
    let i = c.args.self.now in
    let e = entries_of c.args.entered in
    let tests = nothing_refuses i e c.in_ok-mark.ensures.says c.in_ok-check_ready.ensures c.in_ok-gross.ensures.says in
    let ready = subst (λ k. done ≡ first_of (ready_refusals k)) (sym c.self.view_is) c.in_ok-check_ready.ensures in
    let made = is_asked _ _ _ (ap weighing_says (sym c.unwrap.ensures) ∙ c.try_from-weighing.ensures)
    ∙ same_record (meaning c.self.inside) i e _ _ _ c.interval.ensures c.in_ok-gross.ensures.gross c.in_ok-mark.ensures.mark c.self.view_is in
    let after = c.after-self-inside.ensures ∙ becomes_pending c.self.inside.state c.unwrap.result (sym ready) ∙ ap pending made in
    passes_unless (weigh_refusals i e) (powered rows writes i) _ tests ∙ ap (λ s. (done, powered rows writes (with_state i s))) (sym after)
    ∙ ap (λ k. (done, powered rows writes (with_state k (state_of c.after-self-inside.result)))) (sym c.self.view_is)

pub unwrap-requires : goal.unwrap-requires
unwrap-requires c =
    let i = c.args.self.now in
    let e = entries_of c.args.entered in
    let passed : Passed i.settings = rw (← c.self.view_is) (are_good c.self.inside.settings) in
    let fits : TareFits i.settings.max i.tare = rw (← c.self.view_is) (tare_fits c.self.inside.tare _ c.self.invariant.0 c.self.invariant.1) in
    let tests = nothing_refuses i e c.in_ok-mark.ensures.says c.in_ok-check_ready.ensures c.in_ok-gross.ensures.says in
    let ok = weighed_lawful i e passed fits (omega arith) tests 1 (omega arith) (omega arith) in
    is_made _ _ _ c.try_from-weighing.ensures
    (same_record (meaning c.self.inside) i e _ _ _ c.interval.ensures c.in_ok-gross.ensures.gross c.in_ok-mark.ensures.mark c.self.view_is) ok
