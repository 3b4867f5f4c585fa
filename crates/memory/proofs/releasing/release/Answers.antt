use Rattle.std.proofs.Common.{◌≡◌, length, sym, refl, ◌∙◌, arith}
use Rattle.memory.proofs.Releases.{erased_none, count_none, release_takes, release_step, release_done}
use Rattle.memory.proofs.releasing.release.Goals as goal

pub returns-clause-says : goal.returns-clause-says
returns-clause-says g c =
    let ps = c.as_slice-pages.result.now in
    let ends : c.loop-page.page-index ≡ length ps = omega (arith, c.loop-page.auto.page-index-end) in
    release_done (g.M.Medium.rows c.args.m.now) _ c.args.day (g.M.Medium.count c.args.m.now) _ ps c.loop-page.page-index (c.as_slice-pages.ensures ∙ c.released_pages-found.ensures) ends
    c.loop-page.invariant.0 c.loop-page.invariant.1

pub loop-page-init : goal.loop-page-init
loop-page-init g c =
    let m = c.args.m.now in (sym (erased_none (g.M.Medium.rows m)), count_none (g.M.Medium.count m) (g.M.Medium.fits m), refl)

pub unwrap-requires : goal.unwrap-requires
unwrap-requires g c =
    let shape = g.M.Medium.shape c.args.m.now in
    let all = c.as_slice-pages.ensures ∙ c.released_pages-found.ensures in
    release_takes (g.M.Medium.rows c.args.m.now) c.args.day shape.pages shape.whole c.as_slice-pages.result.now all c.loop-page.page-index c.loop-page-test.true _ _ _ _ _ c.loop-page.invariant.0 c.erase.ensures.says

pub loop-page-preserved : goal.loop-page-preserved
loop-page-preserved g c =
    let before = g.M.Medium.rows c.args.m.now in
    let shape = g.M.Medium.shape c.args.m.now in
    let all = c.as_slice-pages.ensures ∙ c.released_pages-found.ensures in
    let step = release_step before c.args.day shape.pages shape.whole c.as_slice-pages.result.now all c.loop-page.page-index c.loop-page-test.true
    _ _ (g.M.Medium.count c.args.m.now) _ _ _ c.loop-page.invariant.0 c.loop-page.invariant.1 c.erase.ensures.says in
    (step.0, step.1, c.erase.ensures.lender ∙ c.loop-page.invariant.2)
