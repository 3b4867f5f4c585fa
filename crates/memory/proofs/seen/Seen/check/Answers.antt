use Rattle.std.proofs.Common.{true, false, length, sym, ap}
use Rattle.std.specs.Prelude.{option_map}
use Rattle.rules.specs.Lists.{when_some}
use Rattle.rules.specs.Memory.{disorder, disorder_among}
use Rattle.rules.specs.Media.{accepted, refused}
use Rattle.rules.proofs.Memories.{start}
use Rattle.records.specs.RecordsOf.{record_of}
use Rattle.memory.proofs.Turns.{turn_more, turn_end, records_begin, order_passes, order_more, none_breaks}
use Rattle.memory.proofs.seen.Seen.check.Goals as goal

pub loop-row-init : goal.loop-row-init
unfolding disorder
loop-row-init g c =
    let m = c.args.self.now.medium.now in
    let shape = g.M.Medium.shape m in
    ap disorder_among (records_begin (g.M.Medium.rows m) shape.pages shape.whole)

pub loop-row-preserved : goal.loop-row-preserved
loop-row-preserved g c =
    let rows = g.M.Medium.rows c.args.self.now.medium.now in
    let more = turn_more (start rows) (length rows) c.rows-row-items.ensures c.into_iter-row-iterator.ensures.into_iter_gives c.loop-row.yielded _ c.loop-row.yielded_by _ _ c.next.ensures.steps _ c.in-Some.is in
    order_passes rows more (option_map record_of c.loop-row.last) c.loop-row.invariant c.in_default.ensures

pub loop-row-preserved-in-Some-entry_at : goal.loop-row-preserved-in-Some-entry_at
loop-row-preserved-in-Some-entry_at g c =
    let rows = g.M.Medium.rows c.args.self.now.medium.now in
    let more = turn_more (start rows) (length rows) c.rows-row-items.ensures c.into_iter-row-iterator.ensures.into_iter_gives c.loop-row.yielded _ c.loop-row.yielded_by _ _ c.next.ensures.steps _ c.in-Some.is in
    order_more rows more (option_map record_of c.loop-row.last) _ true c.loop-row.invariant c.in-Some-entry_at.ensures c.if-not-may_follow.ensures

pub returns-then-not-may_follow : goal.returns-then-not-may_follow
returns-then-not-may_follow g c =
    let rows = g.M.Medium.rows c.args.self.now.medium.now in
    let more = turn_more (start rows) (length rows) c.rows-row-items.ensures c.into_iter-row-iterator.ensures.into_iter_gives c.loop-row.yielded _ c.loop-row.yielded_by _ _ c.next.ensures.steps _ c.in-Some.is in
    sym
    (ap (λ o. when_some o accepted (refused 21))
    (order_more rows more (option_map record_of c.loop-row.last) _ false c.loop-row.invariant c.in-Some-entry_at.ensures c.if-not-may_follow.ensures))

pub returns : goal.returns
returns g c =
    let rows = g.M.Medium.rows c.args.self.now.medium.now in
    let done = turn_end (start rows) (length rows) c.rows-row-items.ensures c.into_iter-row-iterator.ensures.into_iter_gives c.loop-row.yielded _ c.loop-row.yielded_by _ _ c.next.ensures.steps c.in-None.is in
    sym (ap (λ o. when_some o accepted (refused 21)) (none_breaks rows (option_map record_of c.loop-row.last) c.loop-row.invariant done))
