-- Settings that passed the check are good
use Rattle.rules.specs.Settings.{Passed}
use Rattle.rules.proofs.SettingLaws.{passes}
use Rattle.loads.specs.declared.settings.Settings.{Settings}
use Rattle.rules.specs.Loads.{kg_of}
use Rattle.loads.specs.ClassesOf.{class_number}
use Rattle.loads.specs.IntervalsOf.{interval_code}
use Rattle.loads.specs.SettingsOf.{settings_of}

pub are_good : (s : Settings) → Passed (settings_of s)
are_good s = (passes (class_number s.class) (kg_of (interval_code s.interval)) s.max (settings_of s) s.good.passes).good
