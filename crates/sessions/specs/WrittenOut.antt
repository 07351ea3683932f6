-- A SESSION WITH BURSTS, stated: it is the session with the bursts written out, so that demand 3, travel and changes are the same.
-- Paper 02, K5, "Each telegram taken is an event of its own, for travel and changes too". This file is definitions only; `written_out_lem` of WrittenOutLaws proves it.
use Rattle.std.specs.Prelude.{◌≡◌, Bool, true, false, ◌&&◌, List, [], ◌∷◌, ◌++◌, ℕ, ℤ}
use Rattle.events.specs.declared.Event.{Event}
use Rattle.runs.specs.Run.{trace_of}
use Rattle.state.specs.declared.State.{State}
use Rattle.state.specs.State.{fresh_of}
use Rattle.sessions.specs.Session.{Entry, event, burst, frame, entered, session_of, taken_of}
use Rattle.sessions.specs.Demand3.{last_run}

-- events as entries
unfoldable pub entries_of : List Event → List Entry
entries_of [] = []
entries_of (e ∷ es) = event e ∷ entries_of es

-- a burst is written out as the telegrams taken
unfoldable pub written_of : State → Entry → List Entry
written_of s (event e) = event e ∷ []
written_of s (burst ws) = entries_of (taken_of s ws)
written_of s (frame f) = frame f ∷ []

unfoldable pub written_out : ℕ → State → List Entry → List Entry
written_out node s [] = []
written_out node s (x ∷ xs) = written_of s x ++ written_out node (entered node s x) xs

-- no entry is a burst
unfoldable pub is_single : Entry → Bool
is_single (event e) = true
is_single (burst ws) = false
is_single (frame f) = true

unfoldable pub all_single : List Entry → Bool
all_single [] = true
all_single (x ∷ xs) = is_single x && all_single xs

pub record WrittenOut (node : ℕ) (t : List ℤ) (xs : List Entry) : Type 0 where
  -- without bursts
  pub single : all_single (written_out node (fresh_of t) xs) ≡ true
  -- the panel after it, and the run that it is in
  pub panel : session_of node (fresh_of t) (written_out node (fresh_of t) xs) ≡ session_of node (fresh_of t) xs
  pub run : last_run node t (written_out node (fresh_of t) xs) ≡ last_run node t xs
  -- "for travel and changes too": results and condition k + 1 along the run
  pub trace : (k : ℕ) →
      trace_of (last_run node t (written_out node (fresh_of t) xs)).table (last_run node t (written_out node (fresh_of t) xs)).events k
      ≡ trace_of (last_run node t xs).table (last_run node t xs).events k
