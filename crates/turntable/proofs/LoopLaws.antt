-- With a round loop the count stays below R in every state of a run, so 12 never refuses a reset. Paper 02, K4.
use Rattle.std.specs.Prelude.{Option, Some, None, is_none, ◌≡◌, Bool, true, false, not, ◌&&◌, ◌||◌, ℕ, ◌≤◌, ◌<◌, eqb, leb, ℤ}
use Rattle.std.proofs.Math.Path.{refl}
use mathlib.Core.List.{List, [], ◌∷◌}
use Rattle.std.proofs.Common.{arith, le-ltb}
use Rattle.events.specs.declared.Event.{Event}
use Rattle.events.specs.declared.Event.TheVariants.{Telegram, Levels, Tick}
use Rattle.inputs.specs.Commands.{Acted, acted, reset_refusal, reset_of, clear_locks_of, clear_extremes_of, teach_refusal, teach_of, refusal_of, command_of}
use Rattle.inputs.proofs.CommandLaws.{by-command, by-input, input-aimed}
use Rattle.inputs.specs.Levels.{edge_at, first_note, input_acts, input_of, commands_of}
use Rattle.integers.specs.ChoiceLaws.{by-test}
use Rattle.integers.specs.Limit.{Z}
use Rattle.panel.specs.declared.Answer.{Answer}
use Rattle.panel.specs.Step.{answer_of, switched_of, displayed_of, on_telegram, on_levels, on_tick, step_of}
use Rattle.panel.proofs.ValidLaws.{by-step}
use Rattle.parameters.proofs.RangeLaws.{round-loop-range}
use Rattle.parameters.specs.Slots.{round_loop}
use Rattle.parameters.proofs.StoreLaws.{stored-layout, stored-scaling}
use Rattle.parameters.specs.Valid.{Valid}
use Rattle.parameters.proofs.ValidLaws.{loads}
use Rattle.reading.specs.AlikeLaws.{basis-alike}
use Rattle.reading.specs.FollowLaws.{start-below}
use Rattle.reading.specs.Reading.{accepts_of}
use Rattle.runs.specs.KeptLaws.{Kept, kept_fresh, kept_step}
use Rattle.runs.specs.Run.{answers_of, some_command, some_event}
use Rattle.settings.specs.declared.Action.{Action}
use Rattle.settings.specs.declared.Action.TheVariants.{Reset, Freeze, ClearLocks, ClearExtremes, Teach}
use Rattle.settings.specs.Settings.{input_at}
use Rattle.state.specs.declared.Refusal.{Refusal}
use Rattle.state.specs.declared.Refusal.TheVariants.{NothingToTake}
use Rattle.state.specs.declared.State.{State}
use Rattle.state.specs.Refusal.{no_note, note_number}
use Rattle.state.specs.State.{fresh_of, error_of, reread_of, received_of}
use Rattle.turntable.specs.Turntable.{noted, NeverTwelve, barred_at, barred_by, barred_in}

-- ---- the count stays below R

-- what a state's result starts from is below a number; commands leave it
abbrev pub Under : ℕ → State → Type 0
Under n s = s.live.basis.start < n

under-input : (n l i : ℕ) (x : Acted) → Under n x.state → Under n (input_of l i x).state
unfolding reset_of reread_of clear_locks_of clear_extremes_of teach_of
under-input n l i x u =
    by-input l i x (Under n)
    (λ _. by-command (input_at x.state.table i).action x.state (input-aimed x.state.table i) (Under n) u (λ _ _. u) u u (λ k _ _ _. u)) u

module _ {t : List ℤ} (h : 0 < round_loop t) where
  pub under-step : {s : State} → Kept t s → Under (round_loop t) s → (e : Event) → Under (round_loop t) (step_of s e).state
  unfolding switched_of displayed_of received_of reread_of commands_of
  under-step {s} k u e =
      by-step s e (Under (round_loop t)) u
      (λ w. rw (basis-alike k.alike stored-layout stored-scaling s.live.basis w) (start-below t h s.live.basis w u))
      (λ l. let x₁ = input_of l 0 (acted s no_note) in
      let u₁ = under-input (round_loop t) l 0 (acted s no_note) u in
      under-input (round_loop t) l 2 (input_of l 1 x₁) (under-input (round_loop t) l 1 x₁ u₁))
      (λ ms. u)

-- ---- 12 asks for a number above Z

abbrev Not12 : Option Refusal → Type 0
Not12 n = eqb (note_number n) 12 ≡ false

-- what a state's result starts from is up to Z
abbrev UpToZ : State → Type 0
UpToZ s = s.live.basis.start ≤ Z

refused-not : (a : Action) (s : State) → UpToZ s → Not12 (refusal_of a s)
unfolding refusal_of reset_refusal teach_refusal
refused-not Action.None s u = refl
refused-not Freeze s u = refl
refused-not ClearLocks s u = refl
refused-not ClearExtremes s u = refl
refused-not Reset s u =
    by-test (not s.live.seen || eqb (error_of s) 3) (Some NothingToTake) _ Not12 (λ _. refl) (λ _. rw (le-ltb Z s.live.basis.start u))
refused-not (Teach k) s u = by-test (s.live.seen && eqb (error_of s) 0) no_note (Some NothingToTake) Not12 (λ _. refl) (λ _. refl)

command-not : (a : Action) (s : State) → UpToZ s → Not12 (command_of a s).note
unfolding command_of
command-not a s u = by-test (is_none (refusal_of a s)) _ _ (λ (x : Acted). Not12 x.note) (λ _. refl) (λ _. refused-not a s u)

first-not : (n m : Option Refusal) → Not12 n → Not12 m → Not12 (first_note n m)
first-not None m p q = q
first-not (Some r) m p q = p

input-not : (l i : ℕ) (x : Acted) → UpToZ x.state → Not12 x.note → Not12 (input_of l i x).note
unfolding input_of
input-not l i x u n =
    by-test (edge_at x.state l i) (input_acts i x) x (λ (y : Acted). Not12 y.note)
    (λ _. first-not x.note _ n (command-not (input_at x.state.table i).action x.state u)) (λ _. n)

none_after : (a : Bool) → (a && false) ≡ false
none_after true = refl
none_after false = refl

barred-not : (l i : ℕ) (x : Acted) → UpToZ x.state → barred_at l i x ≡ false
unfolding barred_at
barred-not l i x u = rw (refused-not (input_at x.state.table i).action x.state u) (none_after (edge_at x.state l i))

-- ---- an event, and a run

module _ {t : List ℤ} (v : Valid t) (h : 0 < round_loop t) where
  up_to : (s : State) → Under (round_loop t) s → UpToZ s
  up_to s u = omega (arith, u, round-loop-range v)

  module _ (s : State) (l : ℕ) (u : Under (round_loop t) s) where
    abbrev x₀ : Acted
    x₀ = acted s no_note

    abbrev x₁ : Acted
    x₁ = input_of l 0 x₀

    abbrev x₂ : Acted
    x₂ = input_of l 1 x₁

    u₁ : UpToZ x₁.state
    u₁ = up_to x₁.state (under-input (round_loop t) l 0 x₀ u)

    u₂ : UpToZ x₂.state
    u₂ = up_to x₂.state (under-input (round_loop t) l 1 x₁ (under-input (round_loop t) l 0 x₀ u))

    commands-not : Not12 (commands_of s l).note
    unfolding commands_of
    commands-not = input-not l 2 x₂ u₂ (input-not l 1 x₁ u₁ (input-not l 0 x₀ (up_to s u) refl))

    levels-unbarred : barred_by s (Levels l) ≡ false
    unfolding some_command
    levels-unbarred = rw (barred-not l 0 x₀ (up_to s u), barred-not l 1 x₁ u₁, barred-not l 2 x₂ u₂) (none_after (leb l 7))

  step-not : (s : State) (e : Event) → Under (round_loop t) s → Not12 (step_of s e).note
  unfolding step_of on_telegram on_levels on_tick answer_of
  step-not s (Telegram w) u = by-test (accepts_of s.table w) _ _ (λ (a : Answer). Not12 a.note) (λ _. refl) (λ _. refl)
  step-not s (Levels l) u = by-test (leb l 7) _ _ (λ (a : Answer). Not12 a.note) (λ _. commands-not s l u) (λ _. refl)
  step-not s (Tick ms) u = refl

  step-unbarred : (s : State) (e : Event) → Under (round_loop t) s → barred_by s e ≡ false
  unfolding some_command
  step-unbarred s (Telegram w) u = refl
  step-unbarred s (Levels l) u = levels-unbarred s l u
  step-unbarred s (Tick ms) u = refl

  run-not : {s : State} → Kept t s → Under (round_loop t) s → (es : List Event) → noted 12 (answers_of s es) ≡ false
  unfolding noted answers_of
  run-not k u [] = refl
  run-not {s = s} k u (e ∷ es) = rw (step-not s e u) (run-not {s = (step_of s e).state} (kept_step t k e) (under-step h k u e) es)

  run-unbarred : {s : State} → Kept t s → Under (round_loop t) s → (es : List Event) → barred_in step_of s es ≡ false
  unfolding some_event
  run-unbarred k u [] = refl
  run-unbarred {s = s} k u (e ∷ es) = rw (step-unbarred s e u) (run-unbarred {s = (step_of s e).state} (kept_step t k e) (under-step h k u e) es)

-- 12 CANNOT OCCUR WHILE A ROUND LOOP IS SET
pub no-twelve : NeverTwelve
unfolding fresh_of
no-twelve t e h es =
    record {
      unnoted = run-not (loads t e) h (kept_fresh t) h es;
      unbarred = run-unbarred (loads t e) h (kept_fresh t) h es;
    }
