-- What the parts of a table of refusals say of the whole
use Rattle.std.proofs.Common.{◌≡◌, ℕ, true, false, cond, List, [], ◌∷◌, ◌++◌, refl, ap, arith}
use Rattle.rules.specs.Terminal.{Answer, done, refuses, Refusal, unless}
use Rattle.rules.proofs.Refusals.{NoneHolds}
use Rattle.indicator.specs.Answers.{first_of}

refuses_done : (n place : ℕ) → refuses n place ≡ done → ⊥
refuses_done n place e = let z : ◌≡◌ {A = ℕ} 0 1 = cc in absurd (omega arith)

-- a part that refuses nothing leaves the answer to the rest
pub past : {W : Type 0} (xs ys : List Refusal) (w : W) (result : Answer × W) → first_of xs ≡ done → unless (xs ++ ys) w result ≡ unless ys w result
past [] ys w result e = refl
past (x ∷ xs) ys w result e =
    (elim x.holds as (λ b. cond b (refuses x.number x.place) (first_of xs) ≡ done
    → cond b (refuses x.number x.place, w) (unless (xs ++ ys) w result) ≡ unless ys w result) [
      | true ↦ λ f. absurd (refuses_done x.number x.place f)
      | false ↦ past xs ys w result
    ]) e

-- a part that refuses gives the answer
pub stopped :
    {W : Type 0} (xs ys : List Refusal) (w : W) (result : Answer × W) (n place : ℕ) → first_of xs ≡ refuses n place
    → unless (xs ++ ys) w result ≡ (refuses n place, w)
stopped [] ys w result n place e = let z : ◌≡◌ {A = ℕ} 0 1 = cc in absurd (omega arith)
stopped (x ∷ xs) ys w result n place e =
    (elim x.holds as (λ b. cond b (refuses x.number x.place) (first_of xs) ≡ refuses n place
    → cond b (refuses x.number x.place, w) (unless (xs ++ ys) w result) ≡ (refuses n place, w)) [
      | true ↦ λ f. ap (λ a. (a, w)) f
      | false ↦ stopped xs ys w result n place
    ]) e

-- where the parts refuse nothing, no refusal of the whole holds
pub none_hold : (xs ys : List Refusal) → first_of xs ≡ done → NoneHolds ys → NoneHolds (xs ++ ys)
none_hold [] ys e rest = rest
none_hold (x ∷ xs) ys e rest =
    let each : (x.holds ≡ false) × (first_of xs ≡ done) =
    (elim x.holds as (λ b. cond b (refuses x.number x.place) (first_of xs) ≡ done → (b ≡ false) × (first_of xs ≡ done)) [
      | true ↦ λ f. absurd (refuses_done x.number x.place f)
      | false ↦ λ f. (refl, f)
    ]) e in
    (each.0, none_hold xs ys each.1 rest)
