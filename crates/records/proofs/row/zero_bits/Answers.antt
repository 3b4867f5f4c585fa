use Rattle.std.proofs.Common.{◌≡◌, ℕ, ◌+◌, ◌/◌, ◌^◌, ◌<◌, ◌≤◌, length, get_or, ap, ◌∙◌, arith, rules}
use lib.Count.{ones, ones-le}
use Rattle.rules.specs.Lists.{number_of}
use Rattle.records.proofs.RowsRead.{spread, ones_of_words}
use Rattle.records.proofs.row.zero_bits.Goals as goal

few : (w : ℕ) → w < 2 ^ 64 → ones w ≤ 64
few w h = ones-le 64 w h

fewer : (w : ℕ) → w < 2 ^ 56 → ones w ≤ 56
fewer w h = ones-le 56 w h

pub overflow_sub-set : goal.overflow_sub-set
overflow_sub-set c = grind (arith, few, fewer)

pub returns : goal.returns
returns c =
    let ws = c.args.words in
    let size : length ws ≡ 4 = search rules in
    let all : ones (number_of (2 ^ 64) 0 ws / 256) ≡ ones (get_or ws 0 0) + ones (get_or ws 1 0) + ones (get_or ws 2 0) + ones (get_or ws 3 0 / 256) =
    ap (λ l. ones (number_of (2 ^ 64) 0 l / 256)) (spread ws size) ∙ ones_of_words (get_or ws 0 0) (get_or ws 1 0) (get_or ws 2 0) (get_or ws 3 0) (omega arith) (omega arith) (omega arith) in
    omega (arith, all, c.from.ensures, few (get_or ws 0 0) (omega arith), few (get_or ws 1 0) (omega arith), few (get_or ws 2 0) (omega arith), fewer (get_or ws 3 0 / 256) (omega arith))
