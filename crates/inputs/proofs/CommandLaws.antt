-- Every state that a command leaves is good: its table is valid, its result is from −Z to Z, and no float is a NaN.
-- A reset stores a start up to Z, a teach stores the result, and nothing else writes the table. Paper 01, "Events and inputs".
-- First the cases of a command and an input, as laws for any claim about the state they leave; last, the inputs one by one.
use Rattle.std.specs.Prelude.{Option, Some, None, is_none, ◌≡◌, refl, Bool, true, false, cond, not, ◌&&◌, ◌||◌, List, ℕ, zero, suc, ◌≤◌, ◌<◌, T, eqb, ltb, ℤ}
use Rattle.std.proofs.Common.{arith, ltb-false, sym}
use Rattle.std.proofs.lemmas.Option.{none-some}
use Rattle.driverecord.proofs.NumberLaws.{empty-numbers}
use Rattle.integers.specs.ChoiceLaws.{by-test, is_false}
use Rattle.integers.specs.Limit.{Z}
use Rattle.parameters.proofs.StoreLaws.{valid-offset, valid-preselection}
use Rattle.settings.specs.declared.Action.{Action}
use Rattle.settings.specs.declared.Action.TheVariants.{Reset, Freeze, ClearLocks, ClearExtremes, Teach}
use Rattle.settings.specs.InputLaws.{aimed}
use Rattle.settings.specs.Settings.{is_reset, is_teach, Aimed, input_at}
use Rattle.reading.specs.declared.Halves.{Halves}
use Rattle.reading.specs.Reading.{no_halves}
use Rattle.state.specs.declared.Refusal.{Refusal}
use Rattle.state.specs.declared.Refusal.TheVariants.{OffsetOutOfRange, NothingToTake}
use Rattle.state.specs.declared.State.{State}
use Rattle.state.specs.Refusal.{no_note}
use Rattle.state.specs.State.{error_of, halves_in}
use Rattle.state.specs.Valid.{Good}
use Rattle.state.proofs.ValidLaws.{good-reread}
use Rattle.inputs.specs.Commands.{Acted, acted, reset_refusal, reset_of, clear_locks_of, clear_extremes_of, teach_of, refusal_of, carried_out, marks_after, command_of}
use Rattle.inputs.specs.Levels.{edge_at, input_of, commands_of, marks_at, marks_left}

-- ---- the cases

-- nothing is refused where there is no note
pub unrefused : (n : Option Refusal) → T (is_none n) → n ≡ no_note
unrefused None t = refl
unrefused (Some r) t = absurd t

-- a reset that is not refused starts from a number up to Z
pub reset-fits : (seen : Bool) (error start : ℕ) → reset_refusal seen error start ≡ no_note → start ≤ Z
unfolding reset_refusal
reset-fits seen error start =
    by-test (not seen || eqb error 3) (Some NothingToTake) _ Q (λ _ e. absurd (none-some NothingToTake (sym e)))
    (λ _. by-test (ltb Z start) (Some OffsetOutOfRange) no_note Q (λ _ e. absurd (none-some OffsetOutOfRange (sym e))) (λ n _. ltb-false Z start (is_false (ltb Z start) n)))
  where
    Q : Option Refusal → Type 0
    Q n = n ≡ no_note → start ≤ Z

pub reset-allowed : (s : State) → refusal_of Reset s ≡ no_note → s.live.basis.start ≤ Z
unfolding refusal_of
reset-allowed s e = reset-fits s.live.seen (error_of s) s.live.basis.start e

-- the action of an input teaches one of the four preselections, if any
pub input-aimed : (t : List ℤ) (i : ℕ) → Aimed (input_at t i).action
unfolding input_at
input-aimed t i = aimed _

-- a command leaves the state, or resets, clears, or teaches
pub by-command : (a : Action) (s : State) → Aimed a → (Q : State → Type 0) →
    Q s →
    (T (is_reset a) → s.live.basis.start ≤ Z → Q (reset_of s)) →
    Q (clear_locks_of s) →
    Q (clear_extremes_of s) →
    ((k : ℕ) → k < 4 → T (is_teach a) → T (is_none (refusal_of a s)) → Q (teach_of s k)) →
    Q (command_of a s).state
unfolding command_of carried_out refusal_of
by-command Action.None s m Q same reset locks extremes teach = same
by-command Freeze s m Q same reset locks extremes teach = same
by-command ClearLocks s m Q same reset locks extremes teach = locks
by-command ClearExtremes s m Q same reset locks extremes teach = extremes
by-command Reset s m Q same reset locks extremes teach =
    by-test (is_none (refusal_of Reset s)) (acted (reset_of s) no_note) (acted s (refusal_of Reset s)) (λ (x : Acted). Q x.state)
    (λ e. reset tt (reset-allowed s (unrefused (refusal_of Reset s) e))) (λ _. same)
by-command (Teach k) s m Q same reset locks extremes teach =
    by-test (is_none (refusal_of (Teach k) s)) (acted (teach_of s k) no_note) (acted s (refusal_of (Teach k) s)) (λ (x : Acted). Q x.state) (λ e. teach k m tt e) (λ _. same)

-- an input acts or does not
pub by-input : (l i : ℕ) (x : Acted) (Q : State → Type 0) →
    (T (edge_at x.state l i) → Q (command_of (input_at x.state.table i).action x.state).state) →
    Q x.state →
    Q (input_of l i x).state
unfolding input_of
by-input l i x Q acts rests = by-test (edge_at x.state l i) _ x (λ (y : Acted). Q y.state) acts (λ _. rests)

-- ---- the marks

-- a refused command keeps them
pub refused-keeps : (a : Action) (s : State) (h : Halves) → is_none (refusal_of a s) ≡ false → marks_after a s h ≡ h
unfolding marks_after
refused-keeps a s h e = rw e (go (is_reset a))
  where
    go : (b : Bool) → cond (b && false) (halves_in (reset_of s)) h ≡ h
    go true = refl
    go false = refl

-- ---- good states

pub good-command : (a : Action) (s : State) → Aimed a → Good s → Good (command_of a s).state
unfolding reset_of clear_locks_of clear_extremes_of teach_of
good-command a s m g =
    by-command a s m Good g
    (λ _ h. good-reread _ (valid-offset g.table (record { above = h; below = omega arith })) g.driven)
    (record { table = g.table; result = g.result; drive = g.drive; driven = g.driven })
    (record { table = g.table; result = g.result; drive = g.drive; driven = empty-numbers g.driven.present })
    (λ k h _ _. record { table = valid-preselection g.table g.result k h; result = g.result; drive = g.drive; driven = g.driven })

pub good-input : (l i : ℕ) (x : Acted) → Good x.state → Good (input_of l i x).state
good-input l i x g = by-input l i x Good (λ _. good-command (input_at x.state.table i).action x.state (input-aimed x.state.table i) g) g

pub good-commands : (s : State) (l : ℕ) → Good s → Good (commands_of s l).state
unfolding commands_of
good-commands s l g = good-input l 2 (input_of l 1 (input_of l 0 (acted s no_note))) (good-input l 1 (input_of l 0 (acted s no_note)) (good-input l 0 (acted s no_note) g))

-- ---- the inputs one by one

-- the first n inputs, in their order
unfoldable pub inputs_of : ℕ → ℕ → Acted → Acted
inputs_of l zero x = x
inputs_of l (suc n) x = input_of l n (inputs_of l n x)

pub all-inputs : (s : State) (l : ℕ) → inputs_of l 3 (acted s no_note) ≡ commands_of s l
unfolding inputs_of commands_of
all-inputs s l = refl

-- K7: the marks after them
unfoldable pub marks_up_to : ℕ → ℕ → Acted → Halves
marks_up_to l zero x = no_halves
marks_up_to l (suc n) x = marks_at l n (inputs_of l n x) (marks_up_to l n x)

pub all-marks : (s : State) (l : ℕ) → marks_up_to l 3 (acted s no_note) ≡ marks_left s l
unfolding marks_up_to inputs_of marks_left
all-marks s l = refl

pub good-inputs : (l n : ℕ) (x : Acted) → Good x.state → Good (inputs_of l n x).state
unfolding inputs_of
good-inputs l zero x g = g
good-inputs l (suc n) x g = good-input l n (inputs_of l n x) (good-inputs l n x g)
