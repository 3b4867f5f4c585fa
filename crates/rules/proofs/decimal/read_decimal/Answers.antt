use Rattle.std.proofs.Common.{◌≡◌, ℕ, ◌+◌, ◌-◌, ◌*◌, ◌≤◌, Bool, true, false, cond, ◌&&◌, leb, List, length, sym, refl, ap, ◌∙◌, arith, None, Some}
use Rattle.std.proofs.lemmas.List.{take_all, drop_all}
use Rattle.std.proofs.lemmas.Bool.{le-leb}
use Rattle.rules.specs.Lists.{number_of}
use Rattle.rules.specs.Terminal.{all_digits, written}
use Rattle.rules.proofs.Decimals.{digit_more, digit_room, few_digits, digit_here, none_here, digit_told, no_digit_told}
use Rattle.rules.proofs.decimal.read_decimal.Goals as goal

-- what is answered of a text that is short enough
short_enough : (text : List ℕ) (b : Bool) → length text ≤ 19 → all_digits text ≡ b
    → cond (leb (length text) 19 && all_digits text) (Some (written text)) None ≡ cond b (Some (written text)) None
short_enough text b short e = rw (le-leb (length text) 19 short, e)

pub loop-byte-init : goal.loop-byte-init
unfolding number_of
loop-byte-init c = (refl, omega arith, refl)

pub returns-in_err-to_digit : goal.returns-in_err-to_digit
returns-in_err-to_digit c =
    let text = c.args.text.now in
    let i : ℕ = c.loop-byte.byte-index in
    let other = no_digit_told _ (rw c.from.ensures at c.in_err-to_digit.ensures.cases) in
    c.from_residual.ensures ∙ sym (short_enough text false c.if-text-gt-LONGEST.false (c.loop-byte.invariant.2 ∙ none_here text i c.loop-byte-test.true other))

pub overflow_mul-number : goal.overflow_mul-number
overflow_mul-number c =
    let i : ℕ = c.loop-byte.byte-index in
    omega (arith, few_digits (i + 1) 19 (omega arith), digit_room i c.loop-byte.number 0 (omega arith) c.loop-byte.invariant.1)

-- the digit that was read
digit : (c : goal.After-from-in-loop-byte) → (48 ≤ c.from.result) × (c.from.result ≤ 57) × (c.in_ok-to_digit.field-0 ≡ c.from.result - 48)
digit c = digit_told c.from.result c.in_ok-to_digit.field-0 (omega (arith, c.in_ok-to_digit.ensures.value.0, c.in_ok-to_digit.ensures.value.1)) c.in_ok-to_digit.ensures.cases

pub overflow_add-number : goal.overflow_add-number
overflow_add-number c =
    let i : ℕ = c.loop-byte.byte-index in
    omega (arith, few_digits (i + 1) 19 (omega arith), c.from-in-loop-byte.ensures, digit_room i c.loop-byte.number c.in_ok-to_digit.field-0 (omega (arith, digit c)) c.loop-byte.invariant.1)

pub loop-byte-preserved : goal.loop-byte-preserved
loop-byte-preserved c =
    let text = c.args.text.now in
    let i : ℕ = c.loop-byte.byte-index in
    let v : ℕ = c.loop-byte.number in
    let read = rw c.from.ensures at (digit c) in (
      ap (λ d. v * 10 + d) (c.from-in-loop-byte.ensures ∙ read.2) ∙ digit_more text i v c.loop-byte-test.true c.loop-byte.invariant.0,
      rw c.from-in-loop-byte.ensures (digit_room i v c.in_ok-to_digit.field-0 (omega (arith, digit c)) c.loop-byte.invariant.1),
      c.loop-byte.invariant.2 ∙ digit_here text i c.loop-byte-test.true read.0 read.1,
    )

pub returns : goal.returns
returns c =
    let text = c.args.text.now in
    let i : ℕ = c.loop-byte.byte-index in
    let past : length text ≤ i = c.loop-byte-test.false in
    let good : all_digits text ≡ true = c.loop-byte.invariant.2 ∙ ap all_digits (drop_all i text past) in
    ap Some (c.loop-byte.invariant.0 ∙ ap written (take_all i text past)) ∙ sym (short_enough text true c.if-text-gt-LONGEST.false good)
