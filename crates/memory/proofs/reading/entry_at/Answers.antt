use Rattle.std.proofs.Common.{ap, ◌∙◌}
use Rattle.std.specs.Prelude.{option_map}
use Rattle.memory.specs.Entries.{entry_of}
use Rattle.memory.proofs.Judged.{no_row_no_entry}
use Rattle.memory.proofs.reading.entry_at.Goals as goal

pub returns-in_err-bytes : goal.returns-in_err-bytes
returns-in_err-bytes g c =
    ap (option_map entry_of) c.from_residual.ensures ∙ no_row_no_entry (g.M.Medium.rows c.args.m.now) c.args.row (c.in_err-bytes.ensures)
