use Rattle.std.proofs.Common.{◌≡◌, ℕ, ◌-◌, ◌/◌, ◌%◌, ◌^◌, eqb, length, get_or, sym, ap, ◌∙◌, arith, rules}
use lib.Count.{ones}
use Rattle.std.proofs.lemmas.Nat.{and_mask}
use Rattle.rules.specs.Lists.{number_of}
use Rattle.records.proofs.RowsRead.{spread, check_of_words}
use Rattle.records.proofs.row.is_checked.Goals as goal

pub returns : goal.returns
returns c =
    let ws = c.args.words in
    let n : ℕ = number_of (2 ^ 64) 0 ws in
    let size : length ws ≡ 4 = search rules in
    let last : n % 256 ≡ get_or ws 3 0 % 256 = ap (λ l. number_of (2 ^ 64) 0 l % 256) (spread ws size) ∙ check_of_words (get_or ws 0 0) (get_or ws 1 0) (get_or ws 2 0) (get_or ws 3 0) in
    let count : c.zero_bits.result ≡ 248 - ones (n / 256) = omega (arith, c.zero_bits.ensures) in
    ap (λ x. eqb x c.zero_bits.result) (and_mask (get_or ws 3 0) 8 ∙ sym last) ∙ ap (eqb (n % 256)) count
