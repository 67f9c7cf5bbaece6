-- Events one after the other, from all workers and in any order.
use Rattle.std.specs.Prelude.{List, [], ◌∷◌}
use Rattle.linear_elim.specs.Systems.{IsSystem}
use Rattle.run_core.specs.States.{CoreParts}
use Rattle.run_core.specs.Steps.{IsDue, after, reply_to}
use Rattle.run_core.specs.declared.event.CoreEvent.{CoreEvent}
use Rattle.run_core.specs.declared.event.CoreEvent.TheVariants as event
use Rattle.run_core.specs.declared.event.CoreReply.{CoreReply}

-- the state that the events leave, taken one after the other
abbrev pub run : CoreParts → List CoreEvent → CoreParts
run state [] = state
run state (event ∷ events) = run (after state event) events

-- each event with what it is answered
abbrev pub answered : CoreParts → List CoreEvent → List (CoreEvent × CoreReply)
answered state [] = []
answered state (event ∷ events) = (event, reply_to state event) ∷ answered (after state event) events

-- what the type of a system keeps: one that is published is the system of its edits and fields
abbrev pub IsKept : CoreEvent → Type 0
IsKept (event.Publish worker system) = IsSystem system
IsKept (event.Draw worker) = Unit {0}
IsKept (event.Claim worker row ranking) = Unit {0}

-- each of the events may come where those before it have left the state
abbrev pub MayCome : CoreParts → List CoreEvent → Type 0
MayCome state [] = Unit {0}
MayCome state (event ∷ events) = IsKept event × IsDue state event × MayCome (after state event) events
