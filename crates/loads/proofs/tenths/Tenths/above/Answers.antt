use Rattle.std.proofs.Common.{◌≡◌, ◌-ℤ◌, arith, rules}
use Rattle.std.proofs.lemmas.Int.{ints}
use Rattle.rules.specs.Loads.{rounded}
use Rattle.loads.proofs.Roundings.{tenth_fits}
use Rattle.loads.proofs.tenths.Tenths.above.Goals as goal

pub returns-clause-bounds : goal.returns-clause-bounds
returns-clause-bounds c =
    let over = c.args.self.0 -ℤ c.args.zero.0 in
    let fits = tenth_fits over (omega (arith, ints)) (omega (arith, ints)) in
    let same : c.nearest.result ≡ rounded over = search rules in
    (omega (arith, ints), omega (arith, ints))
