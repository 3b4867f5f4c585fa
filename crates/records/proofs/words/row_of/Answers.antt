use Rattle.std.proofs.Common.{◌≡◌, ◌+◌, ◌*◌, ◌^◌, ◌<◌, length, ap, ◌∙◌, rules}
use Rattle.std.proofs.ByRecursion.{All-from_get_or}
use Rattle.std.specs.List.{flat_map}
use Rattle.rules.specs.Lists.{number_of, digits_of}
use Rattle.records.proofs.Bases.{words_written}
use Rattle.records.proofs.words.row_of.Goals as goal

pub returns : goal.returns
unfolding digits_of
returns c =
    let ws = c.args.words in
    let size : length ws ≡ 4 = search rules in
    c.copy_from_slice.ensures.after ∙ c.as_flattened.ensures.value ∙ ap (flat_map (λ bs. bs)) c.bytes_of.ensures
    ∙ words_written 0 0 ws (All-from_get_or (λ w. w < 2 ^ 64) ws 0 (λ i _. search rules))
    ∙ ap (λ n. digits_of 256 (0 + 8 * n) (number_of (2 ^ 64) 0 ws)) size
