-- What settings and their check mean in the rules
use Rattle.std.specs.Prelude.{ℕ, Ok, Err, Result}
use Rattle.rules.specs.Settings.{Settings as SettingsByRule, Checked, passed, refused}
use Rattle.loads.specs.declared.settings.Settings.{Settings}
use Rattle.loads.specs.declared.checking.SettingsFault.{SettingsFault}
use Rattle.loads.specs.declared.checking.SettingsFault.TheVariants.{Class, Interval, Max}
use Rattle.loads.specs.IntervalsOf.{interval_code}
use Rattle.loads.specs.ClassesOf.{class_number}

abbrev pub settings_of : Settings → SettingsByRule
settings_of s = record { class = class_number s.class; interval = interval_code s.interval; max = s.max }

-- the number of a refusal
abbrev pub settings_fault_number : SettingsFault → ℕ
settings_fault_number Class = 4
settings_fault_number Interval = 5
settings_fault_number Max = 6

-- what the answer of a check says
abbrev pub check_says : Result Settings SettingsFault → Checked
check_says (Ok s) = passed (settings_of s)
check_says (Err e) = refused (settings_fault_number e)
