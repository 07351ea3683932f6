-- DEMAND 3 OVER SESSIONS, proved: along a session the panel stays the one after its run. An event goes one step further in both, a burst as many as it takes, a write
-- carried out begins both anew, and any other frame leaves both alone; so what `runs` proves of every list of events holds of the session's run.
use Rattle.std.specs.Prelude.{◌≡◌, Bool, cond, List, [], ◌∷◌, ◌++◌, ℕ, ℤ}
use Rattle.std.proofs.Math.Path.{refl}
use Rattle.std.proofs.Common.{sym, ap, ◌∙◌}
use Rattle.std.proofs.Math.Bool.{true, false}
use Rattle.state.specs.declared.State.{State}
use Rattle.state.specs.State.{fresh_of}
use Rattle.burst.specs.Burst.{burst_of}
use Rattle.events.specs.declared.Event.{Event}
use Rattle.panel.specs.Step.{unasked, answer_of, step_of}
use Rattle.parameters.specs.Load.{load_refusal}
use Rattle.registers.specs.Serve.{served_of}
use Rattle.registers.proofs.ServeLaws.{still, afresh}
use Rattle.registers.proofs.StartLaws.{starts}
use Rattle.runs.proofs.Demand3Laws.{demand3}
use Rattle.runs.specs.Run.{run_of, last_answer}
use Rattle.runs.proofs.RunLaws.{last-state}
use Rattle.sessions.specs.Session.{Entry, event, burst, frame, Run, begun, entered, session_of, taken_of, continued, run_in}
use Rattle.sessions.proofs.SingleStepsLaws.{as-single-steps}
use Rattle.sessions.specs.Demand3.{last_run, SessionDemand, Demanded}

-- events more at the end of a run
pub run_on : (s : State) (es fs : List Event) → run_of s (es ++ fs) ≡ run_of (run_of s es) fs
unfolding run_of
run_on s [] fs = refl
run_on s (d ∷ es) fs = run_on (step_of s d).state es fs

-- the state in which a run ends is the one that its last answer carries
last-run : (r : Run) → run_of (fresh_of r.table) r.events ≡ (last_answer r.table r.events).state
unfolding answer_of
last-run r = sym (last-state (unasked (fresh_of r.table)) r.events)

-- the panel is the one after the run, whose table loads
record Follows (s : State) (r : Run) : Type 0 where
  loads : load_refusal r.table ≡ 0
  panel : s ≡ run_of (fresh_of r.table) r.events

-- and stays it
module _ (node : ℕ) (s : State) (r : Run) (h : Follows s r) where
  follows-events : (n : State) (es : List Event) → n ≡ run_of s es → Follows n (record { table = r.table; events = r.events ++ es })
  follows-events n es e =
      record { loads = h.loads; panel = e ∙ ap (λ (x : State). run_of x es) h.panel ∙ sym (run_on (fresh_of r.table) r.events es) }

  follows-frame : (f : List ℕ) (b : Bool) → (served_of node s f).afresh ≡ b → Follows (served_of node s f).state (cond b (begun (served_of node s f).state.table) r)
  unfolding run_of
  follows-frame f true e = let a = afresh node s f e in record { loads = a.loads; panel = a.fresh }
  follows-frame f false e = record { loads = h.loads; panel = still node s f e ∙ h.panel }

  follows : (x : Entry) → Follows (entered node s x) (continued node s r x)
  unfolding entered continued run_of
  follows (event e) = follows-events (step_of s e).state (e ∷ []) refl
  follows (burst ws) = follows-events (burst_of s ws).answer.state (taken_of s ws) (as-single-steps s ws).state
  follows (frame f) = follows-frame f (served_of node s f).afresh refl

follows-all : (node : ℕ) (s : State) (r : Run) → Follows s r → (xs : List Entry) → Follows (session_of node s xs) (run_in node s r xs)
unfolding session_of run_in
follows-all node s r h [] = h
follows-all node s r h (x ∷ xs) = follows-all node (entered node s x) (continued node s r x) (follows node s r h x) xs

-- every session
session-demand : (node : ℕ) (t : List ℤ) → load_refusal t ≡ 0 → (xs : List Entry) → SessionDemand node t xs
unfolding run_of
session-demand node t e xs =
    let h = follows-all node (fresh_of t) (begun t) (record { loads = e; panel = refl }) xs in
    record {
      loads = h.loads;
      panel = h.panel;
      answered = h.panel ∙ last-run (last_run node t xs);
      demand = demand3 (last_run node t xs).table h.loads (last_run node t xs).events;
    }

pub demanded : Demanded
demanded node t e = let s = starts node t e in record { fresh = s.fresh; sessions = session-demand node t s.loads }
