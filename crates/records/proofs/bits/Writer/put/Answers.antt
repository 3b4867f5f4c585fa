use Rattle.std.proofs.Common.{◌≡◌, ℕ, ◌+◌, ◌-◌, ◌*◌, ◌/◌, ◌^◌, ◌≤◌, length, take, ap, ◌∙◌, arith, rules, pow_mono}
use Rattle.rules.specs.Lists.{number_of}
use Rattle.records.specs.Widths.{width_of}
use Rattle.records.proofs.PackedBits.{within_fits, beside_fits, put_within, put_across, word_more}
use Rattle.records.proofs.bits.Writer.put.Goals as goal

pub beside-self-requires-clause-room : goal.beside-self-requires-clause-room
beside-self-requires-clause-room c =
    let self = c.args.self.now in
    let width : ℕ = c.width-width.result in
    let whole = beside_fits self.held c.args.value self.bits width self.fits (rw c.width-width.ensures.width c.requires.fits) in
    let room : 2 ^ (self.bits + width) ≤ 2 ^ 64 = pow_mono {i = self.bits + width} {j = 64} (omega arith) in
    omega (arith, whole)

pub invariant_of-self : goal.invariant_of-self
invariant_of-self c =
    let self = c.args.self.now in
    record {
      fits = rw c.beside-self.ensures (beside_fits self.held c.args.value self.bits c.width-width.result self.fits (rw c.width-width.ensures.width c.requires.fits));
      few = omega arith;
      within = self.within;
    }

pub beside-requires-clause-fits : goal.beside-requires-clause-fits
beside-requires-clause-fits c =
    let width : ℕ = c.width-width.result in
    let over : ℕ = c.args.self.now.bits + width - 64 in
    within_fits c.args.value width (width - over) over (rw c.width-width.ensures.width c.requires.fits) (omega arith)

pub beside-requires-clause-room : goal.beside-requires-clause-room
beside-requires-clause-room c =
    let self = c.args.self.now in
    let width : ℕ = c.width-width.result in
    let over : ℕ = self.bits + width - 64 in
    let front : ℕ = width - over in
    let fits = within_fits c.args.value width front over (rw c.width-width.ensures.width c.requires.fits) (omega arith) in
    let whole = beside_fits self.held (c.args.value / 2 ^ over) self.bits front self.fits fits in
    let room : 2 ^ (self.bits + front) ≤ 2 ^ 64 = pow_mono {i = self.bits + front} {j = 64} (omega arith) in
    omega (arith, whole)

pub returns-then-bits-lt64-clause-value : goal.returns-then-bits-lt64-clause-value
returns-then-bits-lt64-clause-value c =
    let self = c.args.self.now in
    let width : ℕ = c.width-width.result in
    let p : ℕ = number_of (2 ^ 64) 0 (take self.next self.words) in
    ap (λ n. p * 2 ^ (self.bits + width) + n) c.beside-self.ensures ∙ put_within p self.held self.bits width c.args.value
    ∙ ap (λ n. (p * 2 ^ self.bits + self.held) * 2 ^ n + c.args.value) c.width-width.ensures.width

pub returns-else-bits-lt64-clause-value : goal.returns-else-bits-lt64-clause-value
returns-else-bits-lt64-clause-value c =
    let self = c.args.self.now in
    let width : ℕ = c.width-width.result in
    let over : ℕ = self.bits + width - 64 in
    let front : ℕ = width - over in
    let p : ℕ = number_of (2 ^ 64) 0 (take self.next self.words) in
    let size : length self.words ≡ 4 = search rules in
    let sum : front + over ≡ width_of c.args.field = omega arith in
    ap (λ n. n * 2 ^ over + c.low_bits-self.result) (word_more self.words self.next c.beside.result (omega arith))
    ∙ ap (λ n. (p * 2 ^ 64 + n) * 2 ^ over + c.low_bits-self.result) c.beside.ensures
    ∙ ap (λ n. (p * 2 ^ 64 + (self.held * 2 ^ front + c.args.value / 2 ^ over)) * 2 ^ over + n) c.low_bits-self.ensures
    ∙ put_across p self.held self.bits front over c.args.value (omega arith)
    ∙ ap (λ n. (p * 2 ^ self.bits + self.held) * 2 ^ n + c.args.value) sum
