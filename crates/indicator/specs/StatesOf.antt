-- The state of an indicator, and what moves it
use Rattle.std.specs.Prelude.{Option, None, Some}
use Rattle.rules.specs.Records.{Record}
use Rattle.rules.specs.Terminal.{State as TheState, waiting, ready, pending, voided, after_store}
use Rattle.records.specs.WeighingsOf.{weighing_of}
use Rattle.indicator.specs.declared.state.State.{State}
use Rattle.indicator.specs.declared.state.State.TheVariants.{Waiting, Ready, Pending}
use Rattle.indicator.specs.declared.state.Event.{Event}
use Rattle.indicator.specs.declared.state.Event.TheVariants.{Empty, Weighed, Stored, Voided}

abbrev pub state_of : State → TheState
state_of Waiting = waiting
state_of Ready = ready
state_of (Pending w) = pending (weighing_of w)

-- the state after an event; one that does not concern the state leaves it
abbrev pub state_after : State → Event → TheState
state_after Waiting Empty = ready
state_after Ready (Weighed w) = pending (weighing_of w)
state_after s Stored = after_store (state_of s)
state_after s Voided = voided (state_of s)
state_after s e = state_of s

-- the record that is pending
abbrev pub pending_in : TheState → Option Record
pending_in (pending r) = Some r
pending_in s = None
