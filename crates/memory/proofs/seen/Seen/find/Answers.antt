use Rattle.std.proofs.Common.{length, ap, refl, sym, ◌∙◌, rules, tests}
use Rattle.rules.specs.Memory.{find, find_among}
use Rattle.rules.proofs.Rounds.{turn}
use Rattle.rules.proofs.Memories.{start}
use Rattle.records.specs.RecordsOf.{record_of}
use Rattle.memory.specs.Entries.{entry_in}
use Rattle.memory.specs.Rounds.{if_numbered}
use Rattle.memory.proofs.Turns.{around_gives, records_begin}
use Rattle.memory.proofs.Firsts.{find_map_is, first_numbered, finds_told}
use Rattle.memory.proofs.seen.Seen.find.Goals as goal

pub returns : goal.returns
unfolding find
returns g c =
    let n = c.args.number in
    let rows = g.M.Medium.rows c.args.self.now.medium.now in
    let shape = g.M.Medium.shape c.args.self.now.medium.now in
    let all = turn (start rows) (length rows) in
    let gives = around_gives (start rows) (length rows) _ _ c.rows.ensures refl in
    let first = find_map_is record_of (λ i. if_numbered n (entry_in rows i)) _ all _ _ _ c.find_map.ensures.ran c.find_map.ensures.runs gives (λ i o q d. search (rules, tests)) in
    finds_told rows n _ _ (first ∙ first_numbered rows n all ∙ sym (ap (find_among n) (records_begin rows shape.pages shape.whole))) c.ok_or.ensures.value
