-- What the calls that use the memory answer, by the numbers of the rules
use Rattle.std.specs.Prelude.{ℕ, Bool, false, List, Ok, Err, Result, nat_lt, Option}
use Rattle.rules.specs.Lists.{when_some}
use Rattle.rules.specs.Records.{Record}
use Rattle.rules.specs.Terminal.{Releasing, Answer, done, gives, prints, refuses}
use Rattle.terminal.specs.declared.claim.Claim.{Claim}
use Rattle.terminal.specs.declared.fault.StoreFault.{StoreFault}
use Rattle.terminal.specs.FaultsOf.{fault_number, fault_place}

abbrev pub refusal : StoreFault → Answer
refusal f = refuses (fault_number f) (fault_place f)

-- the number of the record that was stored; a refusal hands the claim back
abbrev pub store_answer : Result ℕ (Claim × StoreFault) → Answer
store_answer (Ok n) = gives n
store_answer (Err e) = refusal e.1

-- the line that then stands in the buffer
abbrev pub print_answer : (line : List ℕ) → Result (Unit {0}) StoreFault → Answer
print_answer line (Ok _) = prints line
print_answer line (Err f) = refusal f

abbrev pub verify_answer : Result (Unit {0}) StoreFault → Answer
verify_answer (Ok _) = done
verify_answer (Err f) = refusal f

-- the number of pages erased
abbrev pub release_answer : Result ℕ StoreFault → Answer
release_answer (Ok n) = gives n
release_answer (Err f) = refusal f

-- what a release is asked for
abbrev pub asked : (day today : ℕ) → Option ℕ → Releasing
asked day today keep = record { day = day; today = today; keep = keep }

-- the day is before the newest record's
abbrev pub is_before : (day : ℕ) → Option (ℕ × Record) → Bool
is_before day newest = when_some newest false (λ n. nat_lt day n.1.day)
