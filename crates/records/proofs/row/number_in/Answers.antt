use Rattle.std.proofs.Common.{◌≡◌, ℕ, ◌/◌, ◌%◌, ◌^◌, ◌<◌, length, get_or, take, sym, ap, ◌∙◌, rules}
use Rattle.rules.specs.Lists.{number_of}
use Rattle.rules.specs.Rows.{unpacked}
use Rattle.records.proofs.Looks.{bytes, number_is}
use Rattle.records.proofs.RowsRead.{spread, number_of_words, body_number}
use Rattle.records.proofs.row.number_in.Goals as goal

pub returns : goal.returns
unfolding unpacked
returns c =
    let row = c.args.row.now in
    let ws = c.words_of.result in
    let size : length ws ≡ 4 = search rules in
    let fit : (i : ℕ) → get_or ws i 0 < 2 ^ 64 = λ i. search rules in
    let whole : number_of (2 ^ 64) 0 ws ≡ number_of 256 0 row = number_is row ws c.told-row c.fits-row c.words_of.ensures in
    let body : number_of 256 0 (take 31 row) ≡ number_of 256 0 row / 256 = body_number row c.told-row (bytes row ws c.told-row c.fits-row c.words_of.ensures) in
    c.low_bits.ensures ∙ sym (ap (λ n. (n / 2 ^ 208) % 2 ^ 32) (body ∙ ap (λ n. n / 256) (sym whole ∙ ap (number_of (2 ^ 64) 0) (spread ws size)))
    ∙ number_of_words (get_or ws 0 0) (get_or ws 1 0) (get_or ws 2 0) (get_or ws 3 0) (fit 1) (fit 2) (fit 3))
