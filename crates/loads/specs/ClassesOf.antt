-- A class by its number, and by its row of the class table
use Rattle.std.specs.Prelude.{◌≡◌, ℕ, ◌||◌, cond, ◌==◌, Result, Err, OnErr, None, Some, option_map}
use Rattle.std.specs.Result.{result_ok}
use Rattle.rules.specs.Settings.{Bounds, class_three, class_four, bounds_of}
use Rattle.loads.specs.declared.checking.SettingsFault.{SettingsFault}
use Rattle.loads.specs.declared.checking.SettingsFault.TheVariants.{Class as NoClass}
use Rattle.loads.specs.declared.class.Class.{Class}
use Rattle.loads.specs.declared.class.Class.TheVariants.{Three, Four}

abbrev pub class_number : Class → ℕ
class_number Three = 3
class_number Four = 4

abbrev pub class_bounds : Class → Bounds
class_bounds Three = class_three
class_bounds Four = class_four

-- an answer is the class of a number, where it is 3 or 4, and else a refusal for want of a class
pub record IsClassOf (n : ℕ) (answer : Result Class SettingsFault) : Type 0 where
  pub number : option_map class_number (result_ok answer) ≡ cond (n == 3 || n == 4) (Some n) None
  pub bounds : option_map class_bounds (result_ok answer) ≡ bounds_of n
  pub refused : OnErr answer (answer ≡ Err NoClass)
