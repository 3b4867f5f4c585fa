-- A medium's faults by number and place, and the outcome of a call
use Rattle.std.specs.Prelude.{ℕ, Ok, Err, Result}
use Rattle.rules.specs.Media.{Outcome, accepted, refused}
use Rattle.media.specs.declared.medium.MediumFault.{MediumFault}
use Rattle.media.specs.declared.medium.MediumFault.TheVariants.{Size, Outside, NotBlank}

abbrev pub fault_number : MediumFault → ℕ
fault_number Size = 1
fault_number (Outside place) = 2
fault_number (NotBlank place) = 3

-- the row or page that was asked for
abbrev pub fault_place : MediumFault → ℕ
fault_place Size = 0
fault_place (Outside place) = place
fault_place (NotBlank place) = place

abbrev pub outcome : {A : Type 0} → Result A MediumFault → Outcome
outcome (Ok _) = accepted
outcome (Err e) = refused (fault_number e) (fault_place e)

-- the outcome of a check of lent bytes, which a refusal hands back beside its fault
abbrev pub check_outcome : {A B : Type 0} → Result A (B × MediumFault) → Outcome
check_outcome (Ok _) = accepted
check_outcome (Err (_, e)) = refused (fault_number e) (fault_place e)
