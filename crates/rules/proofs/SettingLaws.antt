-- The check of settings passes the good ones, and no other
use Rattle.std.proofs.Common.{◌≡◌, ℕ, ◌≤◌, cond, ◌||◌, ltb, ◌⊎◌, refl, ap, ◌∙◌, inl, inr, ⊎_elim, arith, Option, None, Some}
use Rattle.std.proofs.lemmas.Bool.Decides.{nat_tests}
use Rattle.rules.specs.Lists.{when_some}
use Rattle.rules.specs.Loads.{kg_of}
use Rattle.rules.specs.Settings.{Settings, Bounds, class_three, class_four, bounds_of, code_of_kg, Within, Checked, passed, refused, checked}
use Rattle.rules.specs.Laws.{AskedFor}

-- a code that is found is the code of that interval
code_found : (kg code : ℕ) → code_of_kg kg ≡ Some code → (code ≤ 5) × (kg_of code ≡ kg)
code_found kg code e = grind (arith, nat_tests)

-- what the check says once the class has its bounds and the interval its code
abbrev with_code : (class max : ℕ) → Bounds → ℕ → Checked
with_code class max b code = cond (ltb max b.least || ltb b.most max) (refused 6) (passed (record { class = class; interval = code; max = max }))

with_code_passes : (class max code : ℕ) (b : Bounds) (s : Settings) → with_code class max b code ≡ passed s
    → Within b max × (s.class ≡ class) × (s.interval ≡ code) × (s.max ≡ max)
with_code_passes class max code b s e = grind (arith, nat_tests)

-- the class that has these bounds
class_found : (class : ℕ) (b : Bounds) → bounds_of class ≡ Some b → ((class ≡ 3) × (b ≡ class_three)) ⊎ ((class ≡ 4) × (b ≡ class_four))
class_found class b e = grind (arith, nat_tests)

pub passes : (class kg max : ℕ) (s : Settings) → checked class kg max ≡ passed s → AskedFor class kg max s
passes class kg max s = by_class (bounds_of class) refl (code_of_kg kg) refl
  where
    by_class : (bounds : Option Bounds) → bounds_of class ≡ bounds → (code : Option ℕ) → code_of_kg kg ≡ code
        → when_some bounds (refused 4) (λ b. when_some code (refused 5) (with_code class max b)) ≡ passed s → AskedFor class kg max s
    by_class None is code found e = absurd (let z : ◌≡◌ {A = ℕ} 0 1 = cc in omega arith)
    by_class (Some b) is None found e = absurd (let z : ◌≡◌ {A = ℕ} 0 1 = cc in omega arith)
    by_class (Some b) is (Some code) found e =
        let h = with_code_passes class max code b s e in
        let k = code_found kg code found in
        record {
          good = record {
            class = ⊎_elim
                (λ three. inl (h.1 ∙ three.0, rw (three.1, ← h.3) at h.0))
                (λ four. inr (h.1 ∙ four.0, rw (four.1, ← h.3) at h.0)) (class_found class b is);
            interval = rw h.2 k.0;
          };
          class_is = h.1;
          interval_is = ap kg_of h.2 ∙ k.1;
          max_is = h.3;
        }

pub is_passed : (class kg max : ℕ) (s : Settings) → AskedFor class kg max s → checked class kg max ≡ passed s
is_passed class kg max s h = grind (arith, nat_tests)
