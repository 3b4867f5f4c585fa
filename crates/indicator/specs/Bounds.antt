-- The bounds within which every indicator stays, whatever was done with it
use Rattle.std.specs.Prelude.{◌≡◌, ◌≤◌, length, true}
use Rattle.rules.specs.Settings.{Passed}
use Rattle.rules.specs.Records.{Record, lawful, numbered}
use Rattle.rules.specs.Terminal.{Indicator, is_tared, tare_value, pending}

pub record InBounds (i : Indicator) : Type 0 where
  -- the settings passed their check
  pub settings_pass : Passed i.settings
  -- a tare that is set is at least 1
  pub tare_at_least_one : is_tared i.tare ≡ true → 1 ≤ tare_value i.tare
  -- and at most the largest load
  pub tare_at_most_max : tare_value i.tare ≤ i.settings.max
  -- the window has at most eight samples
  pub samples_at_most_eight : length i.window ≤ 8
  -- a record that is pending may be stored
  pub pending_may_be_stored : (r : Record) → i.state ≡ pending r → lawful (numbered 1 r) ≡ true
