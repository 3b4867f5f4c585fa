-- What a terminal means in the rules
use Rattle.std.specs.Prelude.{◌≡◌, ℕ, Option, Some}
use Rattle.rules.specs.Memory.{Rows}
use Rattle.rules.specs.Terminal.{World, Indicator, Call, Answer, acts}
use Rattle.terminal.specs.declared.body.Terminal.{Terminal}

-- the world of a medium, with or without power; rows and count say what the medium means
abbrev pub world_with : {M : Type 0} → (rows : M → Rows) (count : M → ℕ) → M → Option Indicator → World
world_with rows count m on = record { rows = rows m; writes = count m; on = on }

-- the world of a terminal
abbrev pub world : {M : Type 0} → (rows : M → Rows) (count : M → ℕ) → Terminal M → World
world rows count t = world_with rows count t.medium (Some t.indicator)

-- the call has this answer, and leaves this terminal
abbrev pub Acts : {M : Type 0} → (rows : M → Rows) (count : M → ℕ) → Call → Terminal M → Answer → Terminal M → Type 0
Acts rows count c old a new = acts c (world rows count old) ≡ (a, world rows count new)

-- so it does, and leaves the medium alone
pub record ActsAlone {M : Type 0} (rows : M → Rows) (count : M → ℕ) (c : Call) (old : Terminal M) (a : Answer) (new : Terminal M) : Type 0 where
  pub says : Acts rows count c old a new
  pub medium : new.medium ≡ old.medium
