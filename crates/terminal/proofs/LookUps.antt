-- What a memory's answer to a number says of the tables of refusals that ask for it
use Rattle.std.proofs.Common.{◌≡◌, ℕ, Bool, true, false, cond, List, ◌∷◌, refl, ap, arith, Option, None, Some}
use Rattle.rules.specs.Lists.{when_some}
use Rattle.rules.specs.Records.{Record}
use Rattle.rules.specs.Memory.{Rows, disorder, find}
use Rattle.rules.specs.Media.{Outcome, accepted, refused}
use Rattle.rules.specs.Terminal.{Answer, refuses, Refusal, ◌when◌, ◌at_any◌, unless, is_missing}
use Rattle.memory.specs.Faults.{looks_up}

not_accepted : (n place : ℕ) → accepted ≡ refused n place → ⊥
not_accepted n place e = let y : ◌≡◌ {A = ℕ} 0 1 = cc in absurd (omega arith)

-- by whether the memory is in order, and what it has under the number
abbrev looked : Option ℕ → Option Record → Outcome × Option Record
looked d f = when_some d (when_some f (refused 26 0, None) (λ r. (accepted, Some r))) (λ i. (refused 21 i, None))

when_accepted : (d : Option ℕ) (f : Option Record) (r : Record) → looked d f ≡ (accepted, Some r) → (d ≡ None) × (f ≡ Some r)
when_accepted None None r e = absurd (not_accepted 26 0 (let same = ap (λ p. p.0) e in cc))
when_accepted None (Some q) r e = (refl, ap (λ p. p.1) e)
when_accepted (Some i) f r e = absurd (not_accepted 21 i (let same = ap (λ p. p.0) e in cc))

when_refused :
    {W : Type 0} (d : Option ℕ) (f : Option Record) (n place : ℕ) (o : Option Record) (rest : List Refusal) (w : W) (result : Answer × W)
    → looked d f ≡ (refused n place, o) → unless (21 at_any d ∷ 26 when when_some f true (λ r. false) ∷ rest) w result ≡ (refuses n place, w)
when_refused None None n place o rest w result e = let same = ap (λ p. p.0) e in cc
when_refused None (Some q) n place o rest w result e = absurd (not_accepted n place (ap (λ p. p.0) e))
when_refused (Some i) f n place o rest w result e = let same = ap (λ p. p.0) e in cc

-- the memory is in order, and has that record
pub is_found : (rows : Rows) (n : ℕ) (r : Record) → looks_up rows n ≡ (accepted, Some r) → (disorder rows ≡ None) × (find rows n ≡ Some r)
is_found rows n r e = when_accepted (disorder rows) (find rows n) r e

-- or one of the two refusals holds
pub is_refused :
    {W : Type 0} (rows : Rows) (n number place : ℕ) (o : Option Record) (rest : List Refusal) (w : W) (result : Answer × W)
    → looks_up rows n ≡ (refused number place, o)
    → unless (21 at_any disorder rows ∷ 26 when is_missing rows n ∷ rest) w result ≡ (refuses number place, w)
is_refused rows n number place o rest w result e = when_refused (disorder rows) (find rows n) number place o rest w result e

-- a number that was read is the one that is written there
pub was_read : (o : Option ℕ) (b : Bool) (n k : ℕ) → o ≡ Some n → o ≡ cond b (Some k) None → (b ≡ true) × (n ≡ k)
was_read None b n k is e = let y : ◌≡◌ {A = ℕ} 0 1 = cc in absurd (omega arith)
was_read (Some m) true n k is e = (refl, cc)
was_read (Some m) false n k is e = let y : ◌≡◌ {A = ℕ} 0 1 = cc in absurd (omega arith)
