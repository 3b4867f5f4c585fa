use Rattle.std.proofs.Common.{◌≡◌, ◌++◌, map, take, drop}
use Rattle.rules.specs.Records.{character_of}
use Rattle.records.proofs.mark.Mark.characters.Given as goal

abbrev pub invariant-loop-code : goal.invariant-loop-code
invariant-loop-code l = l.code-items ≡ map character_of (take l.code-index l.initial.code-items) ++ drop l.code-index l.initial.code-items
