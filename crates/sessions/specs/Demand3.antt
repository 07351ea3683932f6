-- DEMAND 3 OVER SESSIONS, stated. For every node and table that start, and every list of events, bursts and frames: the panel after it is the one after the run of
-- the events since the last write carried out, the telegrams taken of a burst among them, from the fresh state of the table then in force, and demand 3 holds of
-- that run. Starting afresh is no event and no change of a condition: the run begins with no event, and its conditions are off at first.
-- Requests K2 and K5. This file is definitions only; `demanded` of Demand3Laws proves it.
use Rattle.std.specs.Prelude.{◌≡◌, None, List, ℕ, ℤ}
use Rattle.state.specs.State.{fresh_of}
use Rattle.parameters.specs.Load.{load_refusal}
use Rattle.registers.specs.Start.{started_of}
use Rattle.runs.specs.Demand3.{Demand3}
use Rattle.runs.specs.Run.{run_of, last_answer}
use Rattle.sessions.specs.Session.{Entry, Run, begun, session_of, run_in}

-- the run in which a session from the fresh state of a table ends
abbrev pub last_run : ℕ → List ℤ → List Entry → Run
last_run node t xs = run_in node (fresh_of t) (begun t) xs

pub record SessionDemand (node : ℕ) (t : List ℤ) (xs : List Entry) : Type 0 where
  -- the table that was in force when the run began loads
  pub loads : load_refusal (last_run node t xs).table ≡ 0
  -- the panel after the session is the one after the run, which its last answer carries
  pub panel : session_of node (fresh_of t) xs ≡ run_of (fresh_of (last_run node t xs).table) (last_run node t xs).events
  pub answered : session_of node (fresh_of t) xs ≡ (last_answer (last_run node t xs).table (last_run node t xs).events).state
  -- demand 3 of the run
  pub demand : Demand3 (last_run node t xs).table (last_run node t xs).events

-- what starts is the fresh state of the table, and what holds of it holds of every session
pub record Started (node : ℕ) (t : List ℤ) : Type 0 where
  pub fresh : (started_of node t).state ≡ fresh_of t
  pub sessions : (xs : List Entry) → SessionDemand node t xs

abbrev pub Demanded : Type 0
Demanded = (node : ℕ) (t : List ℤ) → (started_of node t).refusal ≡ None → Started node t
