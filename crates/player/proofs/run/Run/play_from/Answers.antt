use Rattle.std.proofs.Common.{ap, ◌∙◌}
use Rattle.rules.specs.Media.{rows_in}
use Rattle.player.proofs.Blanks.{blank_rows}
use Rattle.player.proofs.run.Run.play_from.Goals as goal

pub play_over-requires : goal.play_over-requires
play_over-requires c = (c.over.ensures.rows ∙ ap rows_in c.in-Ok.ensures.bytes ∙ blank_rows, c.over.ensures.count)

pub play_over-requires-in-Sectors : goal.play_over-requires-in-Sectors
play_over-requires-in-Sectors c = (c.over-in-Sectors.ensures.rows ∙ ap rows_in c.in-Ok.ensures.bytes ∙ blank_rows, c.over-in-Sectors.ensures.count)
