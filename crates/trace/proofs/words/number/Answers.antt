use Rattle.std.proofs.Common.{◌≡◌, ℕ, ◌^◌, ◌<◌, ◌≤◌, Bool, true, false, cond, ◌&&◌, leb, List, length, sym, refl, ◌∙◌, arith, rules, Option, None, Some}
use Rattle.std.proofs.lemmas.Bool.{le-leb, and_parts}
use Rattle.rules.specs.Terminal.{all_digits, written}
use Rattle.rules.specs.Trace.{a_number}
use Rattle.rules.proofs.Decimals.{digits_small}
use Rattle.trace.proofs.WordsRead.{sized}
use Rattle.trace.proofs.words.number.Goals as goal

-- what is read of a word that is short enough
abbrev read : List ℕ → Option ℕ
read word = cond (leb (length word) 19 && all_digits word) (Some (written word)) None

same : (word : List ℕ) → 1 ≤ length word → length word ≤ 9 → read word ≡ a_number word
same word low high = rw (le-leb (length word) 19 (omega (arith, high))) (sym (sized word low high))

-- a number that was read has at most nine digits
read_small : (word : List ℕ) (n : ℕ) → length word ≤ 9 → Some n ≡ read word → n < 10 ^ 9
read_small word n high e = by_test (leb (length word) 19 && all_digits word) refl e
  where
    by_test : (b : Bool) → (leb (length word) 19 && all_digits word) ≡ b → Some n ≡ cond b (Some (written word)) None → n < 10 ^ 9
    by_test true good e = let is : n ≡ written word = cc in omega (arith, is, digits_small word 9 high (and_parts (leb (length word) 19) (all_digits word) good).1)
    by_test false bad e = cc

pub returns-then-not-contains-clause-value : goal.returns-then-not-contains-clause-value
unfolding a_number
returns-then-not-contains-clause-value c = search rules

pub returns-in_err-read_decimal-clause-value : goal.returns-in_err-read_decimal-clause-value
returns-in_err-read_decimal-clause-value c =
    let low : 1 ≤ length c.args.word.now = search rules in
    let high : length c.args.word.now ≤ 9 = search rules in
    c.from_residual.ensures ∙ c.in_err-read_decimal.ensures ∙ same c.args.word.now low high

pub overflow_cast-result : goal.overflow_cast-result
overflow_cast-result c =
    let high : length c.args.word.now ≤ 9 = search rules in
    omega (arith, read_small c.args.word.now c.in_ok-read_decimal.field-0 high c.in_ok-read_decimal.ensures)

pub returns-clause-value : goal.returns-clause-value
returns-clause-value c =
    let low : 1 ≤ length c.args.word.now = search rules in
    let high : length c.args.word.now ≤ 9 = search rules in
    c.in_ok-read_decimal.ensures ∙ same c.args.word.now low high

pub returns-clause-small : goal.returns-clause-small
returns-clause-small c =
    let high : length c.args.word.now ≤ 9 = search rules in
    read_small c.args.word.now c.in_ok-read_decimal.field-0 high c.in_ok-read_decimal.ensures
