-- The settings of a terminal: its class, its interval and its largest load, and the check that they pass
use Rattle.std.specs.Prelude.{◌≡◌, ℕ, suc, ◌≤◌, cond, ◌||◌, ◌⊎◌, List, [], ◌∷◌, ◌==◌, nat_lt, Option, None, Some}
use Rattle.rules.specs.Lists.{when_some}
use Rattle.rules.specs.Loads.{six_intervals}

-- a class 3 or 4, an interval's code, and the largest load in intervals
pub record Settings : Type 0 where
  pub class : ℕ
  pub interval : ℕ
  pub max : ℕ

-- ---- The class table: the bounds of the largest load and the smallest load, all in intervals

pub record Bounds : Type 0 where
  pub least : ℕ
  pub most : ℕ
  pub min : ℕ

-- III: n is 500 to 10,000, Min is 20
abbrev pub class_three : Bounds
class_three = record { least = 500; most = 10000; min = 20 }

-- IIII: n is 100 to 1,000, Min is 10
abbrev pub class_four : Bounds
class_four = record { least = 100; most = 1000; min = 10 }

-- by the number of the class, 3 or 4
abbrev pub bounds_of : (class : ℕ) → Option Bounds
bounds_of class = cond (class == 3) (Some class_three) (cond (class == 4) (Some class_four) None)

-- the smallest load in intervals
abbrev pub min_of : Settings → ℕ
min_of s = cond (s.class == 3) class_three.min class_four.min

-- ---- The check

-- the place of kg in a list, counted from code
abbrev pub place_of : (code kg : ℕ) → List ℕ → Option ℕ
place_of code kg [] = None
place_of code kg (k ∷ ks) = cond (k == kg) (Some code) (place_of (suc code) kg ks)

-- the code of an interval of so many kg, where it is one of the six
abbrev pub code_of_kg : (kg : ℕ) → Option ℕ
code_of_kg kg = place_of 0 kg six_intervals

-- settings that passed, or the number of the refusal
pub data Checked : Type 0 where
  passed : Settings → Checked
  refused : (number : ℕ) → Checked

-- plain numbers for the class, the interval in kg and the largest load: 4 no such class, 5 no such interval, 6 a largest load outside the class
abbrev pub checked : (class kg max : ℕ) → Checked
checked class kg max =
    when_some (bounds_of class) (refused 4) (λ b. when_some (code_of_kg kg) (refused 5) (λ code.
    cond (nat_lt max b.least || nat_lt b.most max) (refused 6) (passed (record { class = class; interval = code; max = max }))))

-- the largest load lies within a class
pub record Within (b : Bounds) (max : ℕ) : Type 0 where
  pub low : b.least ≤ max
  pub high : max ≤ b.most

-- settings that passed their check: the largest load is one of its class, the interval one of the six
pub record Passed (s : Settings) : Type 0 where
  pub class : ((s.class ≡ 3) × Within class_three s.max) ⊎ ((s.class ≡ 4) × Within class_four s.max)
  pub interval : s.interval ≤ 5
