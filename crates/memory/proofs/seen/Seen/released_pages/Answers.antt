use Rattle.std.proofs.Common.{[], ◌∷◌, length, sym, ap, ◌∙◌, arith}
use Rattle.std.proofs.lemmas.List.{length-append}
use Rattle.rules.specs.Memory.{pages, newest}
use Rattle.rules.proofs.Memories.{first_page}
use Rattle.memory.specs.Releases.{pages_of}
use Rattle.memory.proofs.Releases.{erase_begin, erase_stops, erase_passes, erase_finds, erase_none, page_fits, passed_fits}
use Rattle.memory.proofs.Turns.{turn_more, turn_end}
use Rattle.memory.proofs.seen.Seen.released_pages.Goals as goal

pub loop-number-init : goal.loop-number-init
loop-number-init g c = erase_begin (g.M.Medium.rows c.args.self.now.medium.now) c.args.day (pages_of c.none-found.result) c.none-found.ensures

pub invariant_of-page : goal.invariant_of-page
invariant_of-page g c =
    let rows = g.M.Medium.rows c.args.self.now.medium.now in
    let more = turn_more (first_page (newest rows)) (pages rows) c.pages-number-items.ensures c.into_iter-number-iterator.ensures.into_iter_gives c.loop-number.yielded _ c.loop-number.yielded_by _ _ c.next.ensures.steps _ c.in-Some.is in
    record { within = page_fits rows (g.M.Medium.shape c.args.self.now.medium.now) c.loop-number.yielded _ c.in-Some.number more }

pub push-requires : goal.push-requires
push-requires g c =
    let rows = g.M.Medium.rows c.args.self.now.medium.now in
    let more = turn_more (first_page (newest rows)) (pages rows) c.pages-number-items.ensures c.into_iter-number-iterator.ensures.into_iter_gives c.loop-number.yielded _ c.loop-number.yielded_by _ _ c.next.ensures.steps _ c.in-Some.is in
    omega (arith, c.loop-number.invariant.1, passed_fits rows (g.M.Medium.shape c.args.self.now.medium.now) c.loop-number.yielded _ c.in-Some.number more)

pub loop-number-preserved : goal.loop-number-preserved
loop-number-preserved g c =
    let rows = g.M.Medium.rows c.args.self.now.medium.now in
    let more = turn_more (first_page (newest rows)) (pages rows) c.pages-number-items.ensures c.into_iter-number-iterator.ensures.into_iter_gives c.loop-number.yielded _ c.loop-number.yielded_by _ _ c.next.ensures.steps _ c.in-Some.is in
    let one_more = length-append c.loop-number.yielded (c.in-Some.number ∷ []) in
    (erase_passes rows c.args.day (pages_of c.loop-number.found) more c.loop-number.invariant.0 c.if-stops_at.ensures c.if-not-all_blank.ensures, omega (arith, c.loop-number.invariant.1, one_more))

pub loop-number-preserved-then-not-all_blank : goal.loop-number-preserved-then-not-all_blank
loop-number-preserved-then-not-all_blank g c =
    let rows = g.M.Medium.rows c.args.self.now.medium.now in
    let more = turn_more (first_page (newest rows)) (pages rows) c.pages-number-items.ensures c.into_iter-number-iterator.ensures.into_iter_gives c.loop-number.yielded _ c.loop-number.yielded_by _ _ c.next.ensures.steps _ c.in-Some.is in
    let one_more = length-append c.loop-number.yielded (c.in-Some.number ∷ []) in
    let one_found = ap length c.push.ensures ∙ length-append (pages_of c.loop-number.found) (c.in-Some.number ∷ []) in (
      erase_finds rows c.args.day (pages_of c.loop-number.found) more c.loop-number.invariant.0 _ c.push.ensures c.if-stops_at.ensures c.if-not-all_blank.ensures,
      omega (arith, c.loop-number.invariant.1, one_more, one_found),
    )

pub returns-then-stops_at : goal.returns-then-stops_at
returns-then-stops_at g c =
    let rows = g.M.Medium.rows c.args.self.now.medium.now in
    let more = turn_more (first_page (newest rows)) (pages rows) c.pages-number-items.ensures c.into_iter-number-iterator.ensures.into_iter_gives c.loop-number.yielded _ c.loop-number.yielded_by _ _ c.next.ensures.steps _ c.in-Some.is in
    sym (erase_stops rows c.args.day (pages_of c.loop-number.found) more c.loop-number.invariant.0 c.if-stops_at.ensures)

pub returns-in-None : goal.returns-in-None
returns-in-None g c =
    let rows = g.M.Medium.rows c.args.self.now.medium.now in
    let done = turn_end (first_page (newest rows)) (pages rows) c.pages-number-items.ensures c.into_iter-number-iterator.ensures.into_iter_gives c.loop-number.yielded _ c.loop-number.yielded_by _ _ c.next.ensures.steps c.in-None.is in
    sym (erase_none rows c.args.day (pages_of c.loop-number.found) c.loop-number.invariant.0 done)
