use Rattle.std.proofs.Common.{◌<◌, map, ap, ◌∙◌}
use Rattle.std.specs.Int.{w64, from_be_bytes}
use Rattle.std.proofs.ByRecursion.{All-from_get_or}
use Rattle.records.proofs.Bases.{words_are}
use Rattle.records.proofs.words.words_of.Goals as goal

pub returns : goal.returns
returns c =
    c.words_in.ensures ∙ ap (map (λ bs. from_be_bytes w64 bs)) c.chunks_of.ensures
    ∙ words_are c.args.row.now c.told-row (All-from_get_or (λ b. b < 256) c.args.row.now 0 (λ i _. c.fits-row i))
