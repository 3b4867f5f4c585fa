-- What every value of the settings' type has gone through
use Rattle.std.specs.Prelude.{◌≡◌}
use Rattle.rules.specs.Loads.{kg_of}
use Rattle.rules.specs.Settings.{Settings, passed, checked}

-- settings that pass the check, asked for by the number of their class, the kg of their interval and their largest load
pub record PassesCheck (s : Settings) : Type 0 where
  pub passes : checked s.class (kg_of s.interval) s.max ≡ passed s
