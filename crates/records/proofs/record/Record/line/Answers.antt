use Rattle.std.proofs.Common.{◌∙◌}
use Rattle.rules.specs.Tickets.{ticket}
use Rattle.records.proofs.Writing.{eleven}
use Rattle.records.proofs.record.Record.line.Goals as goal

pub returns : goal.returns
unfolding ticket
returns c =
    (rw c.unwrap.ensures at c.into_inner.ensures.ok)
    ∙ eleven _ _ _ _ _ _ _ _ _ _ _ c.new-line.ensures c.put.ensures.text c.put-2.ensures.text c.put-3.ensures.text c.put-4.ensures.text c.put-5.ensures.text c.put-6.ensures.text c.put-7.ensures.text c.put-8.ensures.text c.put-9.ensures.text c.put-10.ensures.text c.put-11.ensures.text
    ∙ rw (c.decimal.ensures, c.decimal-2.ensures, c.decimal-3.ensures, c.decimal-4.ensures, c.decimal-5.ensures, c.decimal-6.ensures, c.decimal-7.ensures, c.decimal-8.ensures, c.decimal-9.ensures, c.from.ensures, c.from-2.ensures, c.from-3.ensures, c.from-4.ensures, c.from-5.ensures, c.from-6.ensures, c.from-7.ensures, c.characters.ensures, c.from-kg.ensures, c.kg.ensures, c.letters.ensures, c.weight.ensures, c.net.ensures, c.price.ensures)
