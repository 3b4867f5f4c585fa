use Rattle.std.proofs.Common.{ap, ◌∙◌}
use Rattle.memory.proofs.Judged.{found_in, judged_tells, not_intact}
use Rattle.memory.proofs.reading.intact.Goals as goal

pub returns-in-Intact : goal.returns-in-Intact
returns-in-Intact c = ap found_in c.in-Intact.ensures ∙ judged_tells c.args.row.now

pub returns-in-Blank : goal.returns-in-Blank
returns-in-Blank c = not_intact _ c.in-Blank.is ∙ ap found_in c.judge.ensures ∙ judged_tells c.args.row.now
