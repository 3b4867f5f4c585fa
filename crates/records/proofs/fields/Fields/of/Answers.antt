use Rattle.std.proofs.Common.{arith}
use Rattle.rules.specs.Rows.{fields}
use Rattle.records.specs.RecordsOf.{record_of}
use Rattle.records.proofs.Lawful.{lawful_price}
use Rattle.records.proofs.fields.Fields.of.Goals as goal

pub overflow_cast-result : goal.overflow_cast-result
overflow_cast-result c = omega (arith, c.price.ensures, lawful_price (record_of c.args.weighing) c.requires)

pub returns : goal.returns
unfolding fields
returns c = rw (c.code.ensures, c.kind.ensures, c.weight.ensures, c.net.ensures, c.price.ensures, c.value.ensures.value)
