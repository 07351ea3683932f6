-- A session is a list of events, bursts and frames from a start. Request K2, "A write carried out ends a run of demand 3 and begins a new one"; K5, bursts.
-- Main properties: the panel after a session is the one after the run that it is in (Demand3Laws); a session with bursts is the session with the bursts written out
-- (WrittenOutLaws).
use Rattle.std.specs.Prelude.{cond, List, [], ◌∷◌, ◌++◌, ℕ, ℤ, take}
use Rattle.state.specs.declared.State.{State}
use Rattle.burst.specs.Burst.{burst_of}
use Rattle.events.specs.declared.Event.{Event}
use Rattle.events.specs.declared.Event.TheVariants.{Telegram}
use Rattle.panel.specs.Step.{step_of}
use Rattle.registers.specs.Serve.{served_of}

-- what reaches a panel: an event, the telegrams of a burst, or the bytes of a frame
pub data Entry : Type 0 where
  event : Event → Entry
  burst : List ℕ → Entry
  frame : List ℕ → Entry

-- the panel after an entry, and after a list of them; each gets the state that the last one left
unfoldable pub entered : ℕ → State → Entry → State
entered node s (event e) = (step_of s e).state
entered node s (burst ws) = (burst_of s ws).answer.state
entered node s (frame f) = (served_of node s f).state

unfoldable pub session_of : ℕ → State → List Entry → State
session_of node s [] = s
session_of node s (x ∷ xs) = session_of node (entered node s x) xs

-- K5, "Each telegram taken is an event of its own": those of a burst, as events
unfoldable pub events_of : List ℕ → List Event
events_of [] = []
events_of (w ∷ ws) = Telegram w ∷ events_of ws

abbrev pub taken_of : State → List ℕ → List Event
taken_of s ws = events_of (take (burst_of s ws).count ws)

-- a run: the table in force when it began, and its events since
pub record Run : Type 0 where
  pub table : List ℤ
  pub events : List Event

-- the run of a table that has just begun
abbrev pub begun : List ℤ → Run
begun t = record { table = t; events = [] }

-- an event belongs to the run, and so do the telegrams taken of a burst; a write carried out "ends a run .. and begins a new one", and no other frame does anything to it
unfoldable pub continued : ℕ → State → Run → Entry → Run
continued node s r (event e) = record { table = r.table; events = r.events ++ (e ∷ []) }
continued node s r (burst ws) = record { table = r.table; events = r.events ++ taken_of s ws }
continued node s r (frame f) = cond (served_of node s f).afresh (begun (served_of node s f).state.table) r

-- the run that a session is in at its end
unfoldable pub run_in : ℕ → State → Run → List Entry → Run
run_in node s r [] = r
run_in node s r (x ∷ xs) = run_in node (entered node s x) (continued node s r x) xs
