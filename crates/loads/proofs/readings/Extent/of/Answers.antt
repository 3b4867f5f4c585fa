use Rattle.std.proofs.Common.{◌≡◌, length, arith, rules}
use Rattle.std.proofs.lemmas.Int.{ints, to_z-of_z}
use Rattle.loads.proofs.Extents.{sum_step, lowest_step, highest_step}
use Rattle.loads.proofs.readings.Extent.of.Goals as goal

pub loop-sample-preserved : goal.loop-sample-preserved
loop-sample-preserved c =
    let xs = c.args.samples in
    let i = c.loop-sample.sample-index in
    let len : length xs ≡ 8 = search rules in
    let more = sum_step xs i (omega arith) in (
      omega (arith, ints),
      grind (arith, to_z-of_z, lowest_step),
      grind (arith, to_z-of_z, highest_step),
      omega (arith, ints),
      omega (arith, ints),
    )
