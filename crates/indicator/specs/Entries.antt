-- What is entered with a weighing, in the rules
use Rattle.rules.specs.Terminal.{Entries}
use Rattle.indicator.specs.declared.entered.Entered.{Entered}

-- the entries, with the mark as the bytes that were typed
abbrev pub entries_of : Entered → Entries
entries_of e = record { day = e.day; minute = e.minute; mark = e.mark.now; unit_price = e.unit_price }
