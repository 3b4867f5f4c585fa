-- What a player means in the rules
use Rattle.std.specs.Prelude.{◌≡◌, ℕ, List, [], Ok, Err, Result}
use Rattle.rules.specs.Memory.{Rows}
use Rattle.rules.specs.Terminal.{opening, acts}
use Rattle.rules.specs.Trace.{Reading, asks, to_begin}
use Rattle.rules.specs.Replay.{Replay, unopened, running, eight_pages}
use Rattle.loads.specs.declared.settings.Settings.{Settings}
use Rattle.loads.specs.SettingsOf.{settings_of}
use Rattle.trace.specs.Meaning.{kind_of}
use Rattle.terminal.specs.Worlds.{world}
use Rattle.player.specs.declared.beginning.Beginning.{Beginning}
use Rattle.player.specs.declared.body.Player.{Player}
use Rattle.player.specs.declared.reply.Reply.{Reply}
use Rattle.player.specs.Replies.{bytes_of}

-- a terminal with its settings; rows and count say what its medium means
abbrev pub playing : {M : Type 0} → (rows : M → Rows) (count : M → ℕ) → Player M → Replay
playing rows count p = running (settings_of p.settings) (world rows count p.terminal)

-- a terminal that was opened over eight blank pages
abbrev pub opened : Settings → Replay
opened s = running (settings_of s) (acts (opening (settings_of s)) eight_pages).1

-- what a line writes before a terminal is opened, and what it leaves
abbrev pub begun : Result Beginning Reply → List ℕ × Replay
begun (Ok b) = ([], opened b.settings)
begun (Err reply) = (bytes_of reply, unopened)

-- the kind is the one that the line asks for
abbrev pub KindAsked : Reading → Result Beginning Reply → Type 0
KindAsked line (Ok b) = (class : ℕ) × (kg : ℕ) × (max : ℕ) × (line ≡ asks (to_begin (kind_of b.kind) class kg max))
KindAsked line (Err reply) = Unit {0}
