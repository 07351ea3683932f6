-- A run goes one event at a time, every answer speaks of the state it carries, and the last answer carries the state in which the run ends.
use Rattle.std.specs.Prelude.{Option, ◌≡◌, refl, List, [], ◌∷◌, ℕ, ◌+◌, ◌≤◌, ◌<◌, leb, length, get_or, drop}
use Rattle.std.proofs.Common.{add-one, drop_of_length-le}
use Rattle.std.proofs.Math.Seq.{drop-cons}
use Rattle.events.specs.declared.Event.{Event}
use Rattle.events.specs.declared.Event.TheVariants.{Telegram, Levels, Tick}
use Rattle.integers.specs.ChoiceLaws.{by-test}
use Rattle.reading.specs.Reading.{accepts_of}
use Rattle.panel.specs.declared.Answer.{Answer}
use Rattle.reading.specs.declared.Halves.{Halves}
use Rattle.state.specs.declared.Refusal.{Refusal}
use Rattle.state.specs.declared.State.{State}
use Rattle.panel.specs.Step.{answer_of, on_telegram, on_levels, on_tick, step_of}
use Rattle.runs.specs.Run.{run_of, answers_of, last_of}

-- ---- one event more, and none left

module _ (s : State) (es : List Event) (i : ℕ) where
  pub run_more : (d : Event) → i < length es → run_of s (drop i es) ≡ run_of (step_of s (get_or es i d)).state (drop (i + 1) es)
  unfolding run_of
  run_more d h = rw (add-one, drop-cons es i d)

  pub run_end : length es ≤ i → run_of s (drop i es) ≡ s
  unfolding run_of
  run_end h = rw (drop_of_length-le es h)

  pub answers-more : (d : Event) → i < length es → answers_of s (drop i es) ≡ step_of s (get_or es i d) ∷ answers_of (step_of s (get_or es i d)).state (drop (i + 1) es)
  unfolding answers_of
  answers-more d h = rw (add-one, drop-cons es i d)

  pub answers-end : length es ≤ i → answers_of s (drop i es) ≡ []
  unfolding answers_of
  answers-end h = rw (drop_of_length-le es h)

-- ---- the answers

-- result, shown, error, outputs and drive are those of the state that the answer carries; note and marks are its own
abbrev pub Own : Answer → Type 0
Own a = a ≡ answer_of a.state a.note a.halves

pub answer-own : (s : State) (n : Option Refusal) (halves : Halves) → Own (answer_of s n halves)
unfolding answer_of
answer-own s n halves = refl

-- refused or not
pub step-own : (s : State) (e : Event) → Own (step_of s e)
unfolding step_of on_telegram on_levels on_tick
step-own s (Telegram w) = by-test (accepts_of s.table w) _ _ Own (λ _. answer-own _ _ _) (λ _. answer-own _ _ _)
step-own s (Levels l) = by-test (leb l 7) _ _ Own (λ _. answer-own _ _ _) (λ _. answer-own _ _ _)
step-own s (Tick ms) = answer-own _ _ _

pub last-state : (a : Answer) (es : List Event) → (last_of a (answers_of a.state es)).state ≡ run_of a.state es
unfolding last_of answers_of run_of
last-state a [] = refl
last-state a (e ∷ es) = last-state (step_of a.state e) es

pub last-own : (a : Answer) (es : List Event) → Own a → Own (last_of a (answers_of a.state es))
unfolding last_of answers_of
last-own a [] o = o
last-own a (e ∷ es) o = last-own (step_of a.state e) es (step-own a.state e)

-- so the result, the error and the drive last answered are those of the state in the end
module _ {a : Answer} (o : Own a) where
  pub own-result : a.result ≡ a.state.live.reading.result
  unfolding answer_of
  own-result = rw o

  pub own-error : a.error ≡ a.state.live.reading.error
  unfolding answer_of
  own-error = rw o

  pub own-drive : a.drive ≡ a.state.live.reading.drive
  unfolding answer_of
  own-drive = rw o
