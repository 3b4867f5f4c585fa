use Rattle.std.proofs.Common.{◌≡◌, take}
use Rattle.rules.specs.Lists.{number_of}
use Rattle.records.proofs.mark.Mark.value.Given as goal

abbrev pub invariant-loop-code : goal.invariant-loop-code
invariant-loop-code l = l.value ≡ number_of 64 0 (take l.code-index l.code-items)
