-- THE REQUEST IN ONE EQUATION holds of every state and event. Nothing of an event but a clear and its end touches the record, a clear leaves it empty wherever its input
-- stands, and an empty record that is brought up to date is what the request says of a clear there (`cleared-there`). Paper 02, K6. Assumes nothing.
use Rattle.std.specs.Prelude.{Option, is_none, ◌≡◌, refl, Bool, true, false, cond, ◌&&◌, ◌||◌, ℕ, leb}
use Rattle.std.proofs.Common.{ap, ◌∙◌}
use Rattle.analog.specs.declared.Drive.{Drive}
use Rattle.driverecord.specs.declared.DriveRecord.{DriveRecord}
use Rattle.driverecord.proofs.CodeLaws.{cleared-there}
use Rattle.driverecord.specs.DriveRecord.{updated_of, emptied}
use Rattle.events.specs.declared.Event.TheVariants.{Telegram, Levels, Tick}
use Rattle.inputs.specs.Commands.{Acted, acted, reset_of, clear_locks_of, clear_extremes_of, teach_of, refusal_of, carried_out, command_of}
use Rattle.inputs.specs.Levels.{edge_at, input_acts, input_of, commands_of}
use Rattle.panel.specs.declared.Answer.{Answer}
use Rattle.panel.specs.Step.{answer_of, switched_of, displayed_of, on_telegram, on_levels, on_tick, step_of}
use Rattle.reading.specs.Reading.{accepts_of}
use Rattle.settings.specs.declared.Action.{Action}
use Rattle.settings.specs.declared.Action.TheVariants.{None, Reset, Freeze, ClearLocks, ClearExtremes, Teach}
use Rattle.settings.specs.Settings.{is_clear_extremes, input_at}
use Rattle.state.specs.declared.Refusal.{Refusal}
use Rattle.state.specs.declared.State.{State}
use Rattle.state.specs.Refusal.{no_note}
use Rattle.state.specs.State.{reread_of, received_of}
use Rattle.servicescreen.specs.ServiceScreen.{accepted, clears_at, clears, at_the_end, EndsSo}

-- ---- the commands

-- the record, emptied or as it was
abbrev emptied_if : Bool → DriveRecord → DriveRecord
emptied_if c r = cond c (emptied r) r

-- refused or not
kept : (b : Bool) (s u : State) (n : Option Refusal) → u.live.driven ≡ s.live.driven → (cond b (acted u no_note) (acted s n)).state.live.driven ≡ s.live.driven
kept true s u n e = e
kept false s u n e = refl

command-driven : (a : Action) (s : State) → (command_of a s).state.live.driven ≡ emptied_if (is_clear_extremes a) s.live.driven
unfolding command_of carried_out refusal_of reset_of clear_locks_of clear_extremes_of teach_of reread_of
command-driven None s = refl
command-driven Freeze s = refl
command-driven ClearLocks s = refl
command-driven ClearExtremes s = refl
command-driven Reset s = kept (is_none (refusal_of Reset s)) s (reset_of s) _ refl
command-driven (Teach k) s = kept (is_none (refusal_of (Teach k) s)) s (teach_of s k) _ refl

-- acting or not
acts-or-rests : (b c : Bool) (x y : Acted) (r : DriveRecord) → y.state.live.driven ≡ emptied_if c r → x.state.live.driven ≡ r →
    (cond b y x).state.live.driven ≡ emptied_if (b && c) r
acts-or-rests true c x y r e f = e
acts-or-rests false c x y r e f = f

input-driven : (l i : ℕ) (x : Acted) → (input_of l i x).state.live.driven ≡ emptied_if (clears_at l i x) x.state.live.driven
unfolding input_of clears_at
input-driven l i x =
    let a = (input_at x.state.table i).action in
    acts-or-rests (edge_at x.state l i) (is_clear_extremes a) x (input_acts i x) x.state.live.driven (command-driven a x.state) refl

-- one clear or several
emptied-twice : (b c : Bool) (r : DriveRecord) → emptied_if c (emptied_if b r) ≡ emptied_if (b || c) r
emptied-twice true true r = refl
emptied-twice true false r = refl
emptied-twice false c r = refl

-- whichever input it is
commands-driven : (s : State) (l : ℕ) → (commands_of s l).state.live.driven ≡ emptied_if (clears s (Levels l)) s.live.driven
unfolding commands_of clears
commands-driven s l =
    input-driven l 2 x₂ ∙ ap (emptied_if (clears_at l 2 x₂)) (input-driven l 1 x₁ ∙ ap (emptied_if (clears_at l 1 x₁)) (input-driven l 0 (acted s no_note)))
    ∙ emptied-twice (clears_at l 1 x₁) (clears_at l 2 x₂) (emptied_if (clears_at l 0 (acted s no_note)) s.live.driven)
    ∙ emptied-twice (clears_at l 0 (acted s no_note)) (clears_at l 1 x₁ || clears_at l 2 x₂) s.live.driven
  where
    x₁ : Acted
    x₁ = input_of l 0 (acted s no_note)

    x₂ : Acted
    x₂ = input_of l 1 x₁

-- ---- the end of an event

ended : (c : Bool) (r : DriveRecord) (d : Drive) → updated_of (emptied_if c r) d ≡ at_the_end c r d
unfolding at_the_end
ended true r d = cleared-there r d
ended false r d = refl

-- accepted or refused
ended-or-left : (b c : Bool) (x y : Answer) (r : DriveRecord) → x.state.live.driven ≡ at_the_end c r x.drive → y.state.live.driven ≡ r →
    (cond b x y).state.live.driven ≡ cond b (at_the_end c r (cond b x y).drive) r
ended-or-left true c x y r e f = e
ended-or-left false c x y r e f = f

-- THE REQUEST IN ONE EQUATION
pub ends_so : EndsSo
unfolding step_of on_telegram on_levels on_tick answer_of switched_of displayed_of accepted clears received_of reread_of
ends_so s (Telegram w) = ended-or-left (accepts_of s.table w) false _ _ s.live.driven (ended false s.live.driven _) refl
ends_so s (Levels l) =
    ended-or-left (leb l 7) (clears s (Levels l)) _ _ s.live.driven (rw (commands-driven s l) (ended (clears s (Levels l)) s.live.driven _)) refl
ends_so s (Tick ms) = ended false s.live.driven s.live.reading.drive
