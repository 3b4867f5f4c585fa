-- What a replay under way writes
use Rattle.std.specs.Prelude.{◌≡◌, List, ℕ, ◌++◌, Vec}
use Rattle.std.specs.Global.{Global}
use Rattle.rules.specs.Replay.{Replay, writes_from}
use Rattle.trace.specs.Meaning.{standing}
use Rattle.player.specs.declared.run.Run.{Run}

-- what is written, with what the lines that are left write
abbrev pub whole_of : Replay → Run → List ℕ
whole_of r run = run.out.items ++ writes_from r (standing run.reader).0 (standing run.reader).1

-- this is written in the end
abbrev pub WritesRest : Replay → Run → Vec ℕ Global → Type 0
WritesRest r run out = out.items ≡ whole_of r run
