use Rattle.std.proofs.Common.{sym, ◌∙◌, arith}
use Rattle.media.proofs.Ends.{read_inside, read_blank}
use Rattle.media.proofs.cells.Cells.find_blank.Goals as goal

pub overflow_mul-result : goal.overflow_mul-result
overflow_mul-result c = omega (arith, read_inside c.args.self.now.bytes.now _ _ c.args.row c.in_ok-read.ensures)

pub returns-clause-inside : goal.returns-clause-inside
returns-clause-inside c = read_inside c.args.self.now.bytes.now _ _ c.args.row c.in_ok-read.ensures

pub returns-clause-blank : goal.returns-clause-blank
returns-clause-blank c = read_blank c.args.self.now.bytes.now _ _ c.args.row c.in_ok-read.ensures (sym c.is_blank.ensures ∙ c.if-not-is_blank.false)
