-- A BURST AS SINGLE STEPS, stated: state and last answer, the note aside, are those of single steps with the telegrams taken, and it stops where the request says.
-- Paper 02, K5. This file is definitions only; `as-single-steps` of SingleStepsLaws proves it, of every state and every list of telegrams.
use Rattle.std.specs.Prelude.{Some, ◌≡◌, Bool, true, false, ◌&&◌, List, [], ◌∷◌, ◌⊎◌, ℕ, ◌<◌, ◌≤◌, ℤ, length, get_or, take}
use Rattle.burst.specs.declared.Burst.{Burst}
use Rattle.burst.specs.Burst.{most_telegrams, noted, burst_of}
use Rattle.panel.specs.Step.{unasked}
use Rattle.reading.specs.Reading.{accepts_of}
use Rattle.runs.specs.Run.{run_of, answers_of, last_of}
use Rattle.state.specs.declared.Refusal.TheVariants.{BitAbove, BurstTooLong}
use Rattle.state.specs.declared.State.{State}
use Rattle.state.specs.Refusal.{no_note}
use Rattle.sessions.specs.Session.{events_of}

-- every telegram of a list is accepted
unfoldable pub all_accepted : List ℤ → List ℕ → Bool
all_accepted t [] = true
all_accepted t (w ∷ ws) = accepts_of t w && all_accepted t ws

-- all are taken, "0 if all are taken"; or "It stops before the first refused telegram, gives its refusal 11 as the note"
abbrev pub Stops : List ℤ → List ℕ → Burst → Type 0
Stops t ws x =
    ((x.answer.note ≡ no_note) × (x.count ≡ length ws))
    ⊎ ((x.answer.note ≡ Some BitAbove) × (x.count < length ws) × (accepts_of t (get_or ws x.count 0) ≡ false))

-- what a burst of these telegrams may give in this state
pub record SingleSteps (s : State) (ws : List ℕ) (x : Burst) : Type 0 where
  -- "state and last answer, the note aside, equal those of single calls with the telegrams taken"
  pub state : x.answer.state ≡ run_of s (events_of (take x.count ws))
  pub answer : x.answer ≡ noted (last_of (unasked s) (answers_of s (events_of (take x.count ws)))) x.answer.note
  -- those taken are accepted
  pub accepted : all_accepted s.table (take x.count ws) ≡ true
  pub stops : length ws ≤ most_telegrams → Stops s.table ws x
  -- "21 more than 1,024, tested first, nothing taken"
  pub many : most_telegrams < length ws → (x.answer.note ≡ Some BurstTooLong) × (x.count ≡ 0)

abbrev pub AsSingleSteps : Type 0
AsSingleSteps = (s : State) (ws : List ℕ) → SingleSteps s ws (burst_of s ws)
