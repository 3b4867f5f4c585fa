-- The bytes of a reply
use Rattle.std.specs.Prelude.{ℕ, List, [], Ok, Err, Result}
use Rattle.rules.specs.Terminal.{World, Answer, prints, print, refuses, acts}
use Rattle.rules.specs.Replay.{refusal_line}
use Rattle.player.specs.declared.fault.LineFault.{LineFault}
use Rattle.player.specs.declared.reply.Reply.{Reply}
use Rattle.player.specs.declared.reply.Reply.TheVariants.{Nothing, Ticket, Refusal}
use Rattle.player.specs.Faults.{fault_number, fault_place}

abbrev pub bytes_of : Reply → List ℕ
bytes_of Nothing = []
bytes_of (Ticket text) = text
bytes_of (Refusal text) = text

-- the bytes for what a line comes to: those of its reply, or of the refusal by a fault
abbrev pub written : (line : ℕ) → Result Reply LineFault → List ℕ
written line (Ok reply) = bytes_of reply
written line (Err fault) = refusal_line (fault_number fault) line

-- the refusal of a line by a fault
abbrev pub refusal : LineFault → Answer
refusal fault = refuses (fault_number fault) (fault_place fault)

-- a ticket, or the refusal in its stead
abbrev pub answer_of : Result (List ℕ) LineFault → Answer
answer_of (Ok text) = prints text
answer_of (Err fault) = refusal fault

-- the record that was stored is printed, if one was
abbrev pub then_print : (stored : Result ℕ LineFault) → World → Answer × World
then_print (Ok n) w = acts (print n 76) w
then_print (Err fault) w = (refusal fault, w)
