-- A session with bursts is the session with the bursts written out: entry by entry, since what a burst leaves is what its telegrams leave one by one.
use Rattle.std.specs.Prelude.{◌≡◌, true, ℕ, ℤ}
use Rattle.std.proofs.Math.Path.{refl, ap}
use Rattle.std.proofs.Common.{sym, ◌∙◌}
use mathlib.Core.List.{List, [], ◌∷◌, ◌++◌, append_assoc, append-nil}
use Rattle.burst.specs.Burst.{burst_of}
use Rattle.events.specs.declared.Event.{Event}
use Rattle.panel.specs.Step.{step_of}
use Rattle.runs.specs.Run.{run_of, trace_of}
use Rattle.state.specs.declared.State.{State}
use Rattle.state.specs.State.{fresh_of}
use Rattle.sessions.specs.Session.{Entry, event, burst, frame, Run, begun, entered, session_of, taken_of, continued, run_in}
use Rattle.sessions.proofs.SingleStepsLaws.{as-single-steps}
use Rattle.sessions.specs.WrittenOut.{entries_of, written_of, written_out, is_single, all_single, WrittenOut}

-- a run with events more
abbrev longer : Run → List Event → Run
longer r es = record { table = r.table; events = r.events ++ es }

-- ---- events as entries

module _ (node : ℕ) where
  events-session : (s : State) (es : List Event) (xs : List Entry) → session_of node s (entries_of es ++ xs) ≡ session_of node (run_of s es) xs
  unfolding entries_of session_of entered run_of
  events-session s [] xs = refl
  events-session s (e ∷ es) xs = events-session (step_of s e).state es xs

  events-run : (s : State) (r : Run) (es : List Event) (xs : List Entry) → run_in node s r (entries_of es ++ xs) ≡ run_in node (run_of s es) (longer r es) xs
  unfolding entries_of run_in entered continued run_of
  events-run s r [] xs = ap (λ (l : List Event). run_in node s (record { table = r.table; events = l }) xs) (sym (append-nil r.events))
  events-run s r (e ∷ es) xs =
      events-run (step_of s e).state (longer r (e ∷ [])) es xs
      ∙ ap (λ (l : List Event). run_in node (run_of (step_of s e).state es) (record { table = r.table; events = l }) xs) (append_assoc r.events (e ∷ []) es)

  -- ---- a session

  panel-written : (s : State) (xs : List Entry) → session_of node s (written_out node s xs) ≡ session_of node s xs
  unfolding written_out written_of session_of entered
  panel-written s [] = refl
  panel-written s (event e ∷ xs) = panel-written (step_of s e).state xs
  panel-written s (burst ws ∷ xs) =
      let n = (burst_of s ws).answer.state in
      events-session s (taken_of s ws) (written_out node n xs)
      ∙ ap (λ (m : State). session_of node m (written_out node n xs)) (sym (as-single-steps s ws).state)
      ∙ panel-written n xs
  panel-written s (frame f ∷ xs) = panel-written (entered node s (frame f)) xs

  run-written : (s : State) (r : Run) (xs : List Entry) → run_in node s r (written_out node s xs) ≡ run_in node s r xs
  unfolding written_out written_of run_in entered continued
  run-written s r [] = refl
  run-written s r (event e ∷ xs) = run-written (step_of s e).state (longer r (e ∷ [])) xs
  run-written s r (burst ws ∷ xs) =
      let n = (burst_of s ws).answer.state in
      let l = longer r (taken_of s ws) in
      events-run s r (taken_of s ws) (written_out node n xs)
      ∙ ap (λ (m : State). run_in node m l (written_out node n xs)) (sym (as-single-steps s ws).state)
      ∙ run-written n l xs
  run-written s r (frame f ∷ xs) = run-written (entered node s (frame f)) (continued node s r (frame f)) xs

  -- ---- no burst is left

  events-single : (es : List Event) (xs : List Entry) → all_single (entries_of es ++ xs) ≡ all_single xs
  unfolding entries_of all_single is_single
  events-single [] xs = refl
  events-single (e ∷ es) xs = events-single es xs

  single-written : (s : State) (xs : List Entry) → all_single (written_out node s xs) ≡ true
  unfolding written_out written_of all_single is_single
  single-written s [] = refl
  single-written s (event e ∷ xs) = single-written (entered node s (event e)) xs
  single-written s (burst ws ∷ xs) = events-single (taken_of s ws) _ ∙ single-written (entered node s (burst ws)) xs
  single-written s (frame f ∷ xs) = single-written (entered node s (frame f)) xs

pub written_out_lem : (node : ℕ) (t : List ℤ) (xs : List Entry) → WrittenOut node t xs
written_out_lem node t xs =
    let run = run-written node (fresh_of t) (begun t) xs in
    record {
      single = single-written node (fresh_of t) xs;
      panel = panel-written node (fresh_of t) xs;
      run = run;
      trace = λ k. ap (λ (r : Run). trace_of r.table r.events k) run;
    }
