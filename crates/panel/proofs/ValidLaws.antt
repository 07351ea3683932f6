-- Every state that a panel reaches is good: its table is valid, its result is from −Z to Z, and no float is a NaN. Paper 01, "Events and inputs".
-- First the cases of an event, as a law for any claim about the state it leaves.
use Rattle.std.specs.Prelude.{Bool, true, false, cond, not, ℕ, T, leb}
use Rattle.inputs.proofs.CommandLaws.{good-commands}
use Rattle.inputs.specs.Levels.{commands_of}
use Rattle.state.specs.declared.State.{State}
use Rattle.state.specs.State.{with_levels, with_switches, recorded_of, received_of}
use Rattle.state.specs.Valid.{Good}
use Rattle.state.proofs.ValidLaws.{good-received, good-recorded}
use Rattle.events.specs.declared.Event.{Event}
use Rattle.events.specs.declared.Event.TheVariants.{Telegram, Levels, Tick}
use Rattle.integers.specs.ChoiceLaws.{by-test}
use Rattle.reading.specs.Reading.{accepts_of}
use Rattle.settings.specs.Settings.{preselections_of}
use Rattle.switching.specs.Switching.{all_switched, all_ticked}
use Rattle.panel.specs.declared.Answer.{Answer}
use Rattle.panel.specs.Step.{answer_of, switches_after, switched_of, displayed_of, settled_of, ended_of, on_telegram, on_levels, on_tick, step_of}

-- an event is refused, or is a telegram, levels or a tick
pub by-step : (s : State) (e : Event) (Q : State → Type 0) →
    Q s →
    ((w : ℕ) → Q (ended_of (received_of s w))) →
    ((l : ℕ) → Q (ended_of (with_levels (commands_of s l).state l))) →
    ((ms : ℕ) → Q (recorded_of (with_switches s (all_ticked ms s.live.switches)))) →
    Q (step_of s e).state
unfolding step_of on_telegram on_levels on_tick answer_of
by-step s (Telegram w) Q same telegram levels tick = by-test (accepts_of s.table w) _ _ (λ (a : Answer). Q a.state) (λ _. telegram w) (λ _. same)
by-step s (Levels l) Q same telegram levels tick = by-test (leb l 7) _ _ (λ (a : Answer). Q a.state) (λ _. levels l) (λ _. same)
by-step s (Tick ms) Q same telegram levels tick = tick ms

-- ---- good states

-- switching, before and after the first telegram
pub by-switched : (s : State) (Q : State → Type 0) →
    (T s.live.seen → Q (with_switches s (all_switched (preselections_of s.table) s.live.reading.result s.live.switches))) → (T (not s.live.seen) → Q s) → Q (switched_of s)
unfolding switched_of switches_after
by-switched s Q f g = go s.live.seen f g
  where
    go : (b : Bool) → (T b → Q (with_switches s (all_switched (preselections_of s.table) s.live.reading.result s.live.switches))) → (T (not b) → Q s) →
        Q (with_switches s (cond b (all_switched (preselections_of s.table) s.live.reading.result s.live.switches) s.live.switches))
    go true f g = f tt
    go false f g = g tt

pub good-switched : (s : State) → Good s → Good (switched_of s)
unfolding switched_of
good-switched s g = record { table = g.table; result = g.result; drive = g.drive; driven = g.driven }

pub good-settled : (s : State) → Good s → Good (settled_of s)
unfolding displayed_of
good-settled s g = let h = good-switched s g in record { table = h.table; result = h.result; drive = h.drive; driven = h.driven }

pub good-ended : (s : State) → Good s → Good (ended_of s)
good-ended s g = good-recorded (settled_of s) (good-settled s g)

pub good-step : {s : State} → Good s → (e : Event) → Good (step_of s e).state
good-step {s} g e =
    by-step s e Good g
    (λ w. good-ended (received_of s w) (good-received s w g))
    (λ l. let h = good-commands s l g in
    good-ended (with_levels (commands_of s l).state l) (record { table = h.table; result = h.result; drive = h.drive; driven = h.driven }))
    (λ ms. good-recorded _ (record { table = g.table; result = g.result; drive = g.drive; driven = g.driven }))
