use Rattle.std.proofs.Common.{◌≡◌, ℕ, ◌+◌, ◌-◌, ◌/◌, ◌^◌, ◌≤◌, get_or, arith, rules, pow_mono}
use Rattle.records.specs.Widths.{width_of}
use Rattle.records.proofs.PackedBits.{took_within, took_across, within_fits, beside_fits}
use Rattle.records.proofs.bits.Reader.take.Goals as goal

pub beside-value-requires-clause-fits : goal.beside-value-requires-clause-fits
beside-value-requires-clause-fits c =
    let self = c.args.self.now in
    let more : ℕ = c.width-width.result - self.bits in
    within_fits (get_or self.words self.next 0) 64 more (64 - more) (omega arith) (omega arith)

pub beside-value-requires-clause-room : goal.beside-value-requires-clause-room
beside-value-requires-clause-room c =
    let self = c.args.self.now in
    let more : ℕ = c.width-width.result - self.bits in
    let word : ℕ = get_or self.words self.next 0 in
    let whole = beside_fits self.held (word / 2 ^ (64 - more)) self.bits more self.fits (within_fits word 64 more (64 - more) (omega arith) (omega arith)) in
    let room : 2 ^ (self.bits + more) ≤ 2 ^ 48 = pow_mono {i = self.bits + more} {j = 48} (omega arith) in
    omega (arith, whole)

pub returns-then-width-self-clause-split : goal.returns-then-width-self-clause-split
returns-then-width-self-clause-split c =
    let self = c.args.self.now in
    took_within self.words self.next self.held (self.bits - c.width-width.result) c.low_bits-self.result (search rules) c.low_bits-self.ensures

pub returns-then-width-self-clause-fits : goal.returns-then-width-self-clause-fits
returns-then-width-self-clause-fits c =
    let self = c.args.self.now in
    rw (← c.width-width.ensures.width) (within_fits self.held self.bits c.width-width.result (self.bits - c.width-width.result) self.fits (omega arith))

pub returns-else-width-self-clause-split : goal.returns-else-width-self-clause-split
returns-else-width-self-clause-split c =
    let self = c.args.self.now in
    let more : ℕ = c.width-width.result - self.bits in
    took_across self.words self.next self.held more (64 - more) c.beside-value.result c.low_bits-self-else-width-self.result (search rules)
    (omega arith) (omega arith) c.beside-value.ensures c.low_bits-self-else-width-self.ensures

pub returns-else-width-self-clause-fits : goal.returns-else-width-self-clause-fits
returns-else-width-self-clause-fits c =
    let self = c.args.self.now in
    let more : ℕ = c.width-width.result - self.bits in
    let word : ℕ = get_or self.words self.next 0 in
    let whole = beside_fits self.held (word / 2 ^ (64 - more)) self.bits more self.fits (within_fits word 64 more (64 - more) (omega arith) (omega arith)) in
    let wide : self.bits + more ≡ width_of c.args.field = omega arith in
    rw c.beside-value.ensures (rw wide at whole)
