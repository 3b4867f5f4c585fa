use Rattle.std.proofs.Common.{◌≡◌, length, min, take, ap, ◌∙◌, arith}
use Rattle.std.proofs.lemmas.List.{take_min}
use Rattle.rules.specs.Trace.{lines}
use Rattle.trace.proofs.reader.Reader.over.Goals as goal

front : (c : goal.After-result-1) → take c.min.result c.args.bytes.now ≡ take 32768 c.args.bytes.now
front c =
    let turned : c.min.result ≡ min 32768 (length c.args.bytes.now) = omega (arith, c.min.ensures) in
    ap (λ n. take n c.args.bytes.now) turned ∙ take_min 32768 c.args.bytes.now

pub returns-clause-trace : goal.returns-clause-trace
returns-clause-trace c = front c

pub returns-clause-standing : goal.returns-clause-standing
returns-clause-standing c = ap (λ t. (0, lines t)) (front c)
