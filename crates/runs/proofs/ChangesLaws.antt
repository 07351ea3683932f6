-- While no command stores a preselection, each condition of a run obeys the law of its mode from event to event: commands leave conditions as they are, a settled
-- event turns them by the mode's rule on the result answered, ticks and refusals keep them. A teach is the only command that writes a preselection.
use Rattle.std.specs.Prelude.{is_none, ◌≡◌, Bool, true, false, not, ◌&&◌, ◌||◌, ℕ, zero, suc, ◌<◌, T, leb, ℤ, pos, length}
use Rattle.std.proofs.Math.Path.{refl, subst}
use Rattle.std.proofs.Common.{sym, ap, ◌∙◌, arith}
use mathlib.Core.List.{List, [], ◌∷◌}
use Rattle.inputs.specs.Commands.{Acted, acted, reset_of, clear_locks_of, clear_extremes_of, teach_of, refusal_of, command_of}
use Rattle.inputs.proofs.CommandLaws.{by-command, by-input, input-aimed}
use Rattle.inputs.specs.Levels.{edge_at, input_of, commands_of}
use Rattle.state.specs.Refusal.{no_note}
use Rattle.state.specs.State.{fresh_of, with_levels, with_switches, recorded_of, reread_of, received_of}
use Rattle.events.specs.declared.Event.{Event}
use Rattle.events.specs.declared.Event.TheVariants.{Telegram, Levels, Tick}
use Rattle.integers.specs.ChoiceLaws.{by-test}
use Rattle.parameters.specs.Slots.{offset_slot, preselection_slot, with_offset}
use Rattle.parameters.proofs.StoreLaws.{word_kept, offset-alike, stored-input, stored-preselection}
use Rattle.reading.specs.Reading.{accepts_of}
use Rattle.settings.specs.declared.Action.{Action}
use Rattle.settings.specs.AlikeLaws.{input-alike, preselections-alike}
use Rattle.settings.specs.Settings.{is_teach, Aimed, preselections_of, input_at}
use Rattle.switching.specs.declared.Preselection.{Preselection}
use Rattle.switching.specs.declared.Switch.{Switch}
use Rattle.switching.specs.EachLaws.{each-length}
use Rattle.switching.specs.Switching.{fresh_switch, preselection_at, switch_at, switched_at, all_switched, all_ticked, ticked_of, unlocked_of}
use Rattle.switching.proofs.SwitchingLaws.{Held, fresh-held, mark_at, switched-at-held, switched-at-turns, all-switched-at, all-ticked-at, all-unlocked-at}
use Rattle.switching.specs.Travel.{hysteretic}
use Rattle.switching.proofs.TravelLaws.{Turns, Lawful, stays, view}
use Rattle.panel.specs.declared.Answer.{Answer}
use Rattle.state.specs.declared.State.{State}
use Rattle.panel.specs.Step.{answer_of, switched_of, displayed_of, ended_of, on_telegram, on_levels, on_tick, step_of}
use Rattle.panel.proofs.ValidLaws.{by-switched, by-step}
use Rattle.runs.specs.Run.{answers_of, tracked, seen_in, some_command, some_event, teaches, stores_at, stored_by, stored}
use Rattle.runs.proofs.RunLaws.{step-own, own-result, own-error}
use Rattle.runs.specs.KeptLaws.{Kept, kept-input, kept_step}

-- ---- tests

and_no : (a b : Bool) → T (not (a && b)) → T a → T (not b)
and_no true b n y = n
and_no false b n y = absurd y

no-and : (a b : Bool) → T (not b) → T (not (a && b))
no-and true b n = n
no-and false b n = tt

no-first : (a b : Bool) → T (not a) → T (not (a && b))
no-first true b n = absurd n
no-first false b n = tt

no_or : (a b : Bool) → T (not a) → T (not b) → T (not (a || b))
no_or true b n m = n
no_or false b n m = m

both : (a b : Bool) → T a → T b → T (a && b)
both true b y z = z
both false b y z = absurd y

or_left : (a b : Bool) → T (not (a || b)) → T (not a)
or_left true b n = n
or_left false b n = tt

or_right : (a b : Bool) → T (not (a || b)) → T (not b)
or_right true b n = absurd n
or_right false b n = n

never : (b : Bool) → T b → T (not b) → ⊥
never true y n = n
never false y n = y

-- ---- where nothing is stored, the preselections stay

offset-preselections : (t : List ℤ) (x : ℤ) → preselections_of (with_offset t x) ≡ preselections_of t
offset-preselections t x = preselections-alike (offset-alike t x) stored-preselection (λ k h. word_kept t offset_slot x (preselection_slot k) (λ e. omega arith))

abbrev preselections_in : State → List Preselection
preselections_in s = preselections_of s.table

command-stores : (a : Action) (s : State) → Aimed a → T (not (teaches a s)) → preselections_in (command_of a s).state ≡ preselections_in s
unfolding teaches reset_of reread_of clear_locks_of clear_extremes_of
command-stores a s m n =
    by-command a s m (λ (u : State). preselections_in u ≡ preselections_in s) refl
    (λ _ _. offset-preselections s.table (pos s.live.basis.start)) refl refl
    (λ k h y z. absurd (never (teaches a s) (both (is_teach a) (is_none (refusal_of a s)) y z) n))

input-stores : (l i : ℕ) (x : Acted) → T (not (stores_at l i x)) → preselections_in (input_of l i x).state ≡ preselections_in x.state
unfolding stores_at
input-stores l i x n =
    by-input l i x (λ (u : State). preselections_in u ≡ preselections_in x.state)
    (λ y. command-stores (input_at x.state.table i).action x.state (input-aimed x.state.table i) (and_no (edge_at x.state l i) (teaches (input_at x.state.table i).action x.state) n y))
    refl

ended-table : (s : State) → (ended_of s).table ≡ s.table
unfolding switched_of displayed_of
ended-table s = refl

pub step-stores : (s : State) (e : Event) → T (not (stored_by s e)) → preselections_in (step_of s e).state ≡ preselections_in s
unfolding step_of on_telegram on_levels on_tick answer_of some_command commands_of reread_of received_of
step-stores s (Telegram w) n =
    by-test (accepts_of s.table w) _ _ (λ (a : Answer). preselections_in a.state ≡ preselections_in s)
    (λ _. rw (ended-table (received_of s w))) (λ _. refl)
step-stores s (Levels l) n =
    by-test (leb l 7) _ _ (λ (a : Answer). preselections_in a.state ≡ preselections_in s)
    (λ y. let m = and_no (leb l 7) (stores_at l 0 x₀ || (stores_at l 1 x₁ || stores_at l 2 x₂)) n y in
    let m₁ = or_right (stores_at l 0 x₀) (stores_at l 1 x₁ || stores_at l 2 x₂) m in
    rw (ended-table (with_levels (commands_of s l).state l))
    (input-stores l 2 x₂ (or_right (stores_at l 1 x₁) (stores_at l 2 x₂) m₁)
    ∙ input-stores l 1 x₁ (or_left (stores_at l 1 x₁) (stores_at l 2 x₂) m₁)
    ∙ input-stores l 0 x₀ (or_left (stores_at l 0 x₀) (stores_at l 1 x₁ || stores_at l 2 x₂) m)))
    (λ _. refl)
  where
    x₀ : Acted
    x₀ = acted s no_note

    x₁ : Acted
    x₁ = input_of l 0 x₀

    x₂ : Acted
    x₂ = input_of l 1 x₁
step-stores s (Tick ms) n = refl

-- where no input of the loaded table teaches, no command of any list stores a preselection
module _ {t : List ℤ} (none : (i : ℕ) → i < 3 → T (not (is_teach (input_at t i).action))) where
  input-quiet : (l i : ℕ) → i < 3 → (x : Acted) → Kept t x.state → T (not (stores_at l i x))
  unfolding stores_at teaches
  input-quiet l i h x c =
      rw (input-alike c.alike i (stored-input i h))
      (no-and (edge_at x.state l i) _ (no-first (is_teach (input_at t i).action) _ (none i h)))

  step-quiet : (s : State) (e : Event) → Kept t s → T (not (stored_by s e))
  unfolding some_command
  step-quiet s (Telegram w) c = tt
  step-quiet s (Levels l) c =
      let x₀ = acted s no_note in
      let x₁ = input_of l 0 x₀ in
      let c₁ = kept-input t l 0 x₀ c in
      no-and (leb l 7) _
      (no_or (stores_at l 0 x₀) _ (input-quiet l 0 (omega arith) x₀ c)
      (no_or (stores_at l 1 x₁) _ (input-quiet l 1 (omega arith) x₁ c₁) (input-quiet l 2 (omega arith) (input_of l 1 x₁) (kept-input t l 1 x₁ c₁))))
  step-quiet s (Tick ms) c = tt

  pub teachless-quiet : (s : State) → Kept t s → (es : List Event) → T (not (stored s es))
  unfolding some_event
  teachless-quiet s c [] = tt
  teachless-quiet s c (e ∷ es) = no_or (stored_by s e) _ (step-quiet s e c) (teachless-quiet (step_of s e).state (kept_step t c e) es)

-- after each event the preselections ps are in force: all that the bound asks of the commands
unfoldable pub Unchanged : List Preselection → State → List Event → Type 0
Unchanged ps s [] = Unit {0}
Unchanged ps s (e ∷ es) = (preselections_of (step_of s e).state.table ≡ ps) × Unchanged ps (step_of s e).state es

pub quiet-unchanged : (ps : List Preselection) (s : State) (es : List Event) → T (not (stored s es)) → preselections_in s ≡ ps → Unchanged ps s es
unfolding some_event Unchanged
quiet-unchanged ps s [] n e = tt
quiet-unchanged ps s (v ∷ es) n e =
    let same = step-stores s v (or_left (stored_by s v) (stored (step_of s v).state es) n) ∙ e in
    (same, quiet-unchanged ps (step_of s v).state es (or_right (stored_by s v) (stored (step_of s v).state es) n) same)

-- ---- commands leave the conditions

-- condition k + 1, and whether its suppression has ended
abbrev pub switch_in : State → ℕ → Switch
switch_in s k = switch_at s.live.switches k

-- in the fresh state all four are fresh
fresh-four : (t : List ℤ) → length (fresh_of t).live.switches ≡ 4
unfolding fresh_of
fresh-four t = refl

pub fresh-switch : (t : List ℤ) (k : ℕ) → k < 4 → switch_in (fresh_of t) k ≡ fresh_switch
unfolding fresh_of
fresh-switch t zero h = refl
fresh-switch t (suc zero) h = refl
fresh-switch t (suc (suc zero)) h = refl
fresh-switch t (suc (suc (suc zero))) h = refl
fresh-switch t (suc (suc (suc (suc k)))) h = absurd (omega arith)

record Left (s u : State) (k : ℕ) : Type 0 where
  four : length u.live.switches ≡ 4
  on_same : (switch_in u k).on ≡ (switch_in s k).on
  released-same : (switch_in u k).released ≡ (switch_in s k).released

module _ (k : ℕ) (small : k < 4) where
  left-refl : (s : State) → length s.live.switches ≡ 4 → Left s s k
  left-refl s e = record { four = e; on_same = refl; released-same = refl }

  left-command : (a : Action) (s u : State) → Aimed a → Left s u k → Left s (command_of a u).state k
  unfolding reset_of reread_of clear_locks_of clear_extremes_of teach_of
  left-command a s u m q =
      by-command a u m (λ (v : State). Left s v k) q
      (λ _ _. record { four = q.four; on_same = q.on_same; released-same = q.released-same })
      (record {
        four = each-length 0 (λ j. unlocked_of) u.live.switches ∙ q.four;
        on_same = rw (all-unlocked-at u.live.switches q.four k small) q.on_same;
        released-same = rw (all-unlocked-at u.live.switches q.four k small) q.released-same;
      })
      (record { four = q.four; on_same = q.on_same; released-same = q.released-same })
      (λ j h y z. record { four = q.four; on_same = q.on_same; released-same = q.released-same })

  left-input : (l i : ℕ) (s : State) (x : Acted) → Left s x.state k → Left s (input_of l i x).state k
  left-input l i s x q = by-input l i x (λ (v : State). Left s v k) (λ _. left-command (input_at x.state.table i).action s x.state (input-aimed x.state.table i) q) q

  left-commands : (s : State) (l : ℕ) → length s.live.switches ≡ 4 → Left s (commands_of s l).state k
  unfolding commands_of
  left-commands s l e =
      left-input l 2 s (input_of l 1 (input_of l 0 (acted s no_note))) (left-input l 1 s (input_of l 0 (acted s no_note)) (left-input l 0 s (acted s no_note) (left-refl s e)))

-- ---- an event turns a condition by the rule of its mode

-- the result that travel counts is the state's
pub tracked-is : {t : List ℤ} {s : State} → Kept t s → (e : Event) → tracked (step_of s e) ≡ (step_of s e).state.live.reading.result
tracked-is {t} {s} c e = rw (own-error (step-own s e), own-result (step-own s e)) (kept_step t c e).zeroed

module _ (ps : List Preselection) (k : ℕ) (small : k < 4) (hy : T (hysteretic (preselection_at ps k).mode)) where
  -- the law of preselection k + 1: at the result r its condition goes from was to on
  abbrev Obeys : ℤ → Bool → Bool → Type 0
  Obeys r was on = Turns (view (preselection_at ps k).mode r) (mark_at ps k) (preselection_at ps k).hysteresis was on

  -- there are four switches, and this one is off while it is suppressed
  pub record Ready (s : State) : Type 0 where
    pub four : length s.live.switches ≡ 4
    pub held : Held (switch_in s k)

  -- an event leads from s to u
  record Law (s u : State) : Type 0 where
    turns : Obeys u.live.reading.result (switch_in s k).on (switch_in u k).on
    ready : Ready u

  law-same : (s : State) → Ready s → Law s s
  law-same s i = record { turns = stays _ _ _ (switch_in s k).on; ready = i }

  law-ended : (s u : State) → Ready s → Left s u k → preselections_in u ≡ ps → Law s (ended_of u)
  unfolding displayed_of
  law-ended s u i q e =
      by-switched u (λ (v : State). Law s (recorded_of (displayed_of v)))
      (λ _. record {
        turns =
            subst (λ (w : Switch). Obeys u.live.reading.result (switch_in s k).on w.on) (sym switch-is)
            (subst (λ (b : Bool). Obeys u.live.reading.result b (switched_at ps u.live.reading.result k (switch_in u k)).on) q.on_same
            (switched-at-turns ps u.live.reading.result k (switch_in u k) hy held));
        ready = record {
          four = each-length 0 (switched_at (preselections_in u) u.live.reading.result) u.live.switches ∙ q.four;
          held = subst Held (sym switch-is) (switched-at-held ps u.live.reading.result k (switch_in u k));
        };
      })
      (λ _. record {
        turns = subst (λ (b : Bool). Obeys u.live.reading.result b (switch_in u k).on) q.on_same (stays _ _ _ (switch_in u k).on);
        ready = record { four = q.four; held = held };
      })
    where
      held : Held (switch_in u k)
      held n = rw q.on_same (i.held (rw q.released-same at n))

      switch-is : switch_at (all_switched (preselections_in u) u.live.reading.result u.live.switches) k ≡ switched_at ps u.live.reading.result k (switch_in u k)
      switch-is = all-switched-at u.live.switches q.four k small (preselections_in u) u.live.reading.result ∙ rw e

  law-ticked : (s : State) (ms : ℕ) → Ready s → Law s (recorded_of (with_switches s (all_ticked ms s.live.switches)))
  law-ticked s ms i =
      record {
        turns = subst (λ (w : Switch). Obeys s.live.reading.result (switch_in s k).on w.on) (sym switch-is) (stays _ _ _ (switch_in s k).on);
        ready = record { four = each-length 0 (λ j. ticked_of ms) s.live.switches ∙ i.four; held = subst Held (sym switch-is) i.held };
      }
    where
      switch-is : switch_at (all_ticked ms s.live.switches) k ≡ ticked_of ms (switch_in s k)
      switch-is = all-ticked-at s.live.switches i.four k small ms

  law-step : (s : State) (e : Event) → Ready s → preselections_in (step_of s e).state ≡ ps → Law s (step_of s e).state
  unfolding reread_of received_of
  law-step s e i =
      by-step s e (λ (u : State). preselections_in u ≡ ps → Law s u) (λ _. law-same s i)
      (λ w h. law-ended s (received_of s w) i (record { four = i.four; on_same = refl; released-same = refl })
      (ap preselections_of (sym (ended-table (received_of s w))) ∙ h))
      (λ l h. let q = left-commands k small s l i.four in
      law-ended s (with_levels (commands_of s l).state l) i (record { four = q.four; on_same = q.on_same; released-same = q.released-same })
      (ap preselections_of (sym (ended-table (with_levels (commands_of s l).state l))) ∙ h))
      (λ ms _. law-ticked s ms i)

  -- ---- a run

  pub lawful : {t : List ℤ} (s : State) (es : List Event) → Kept t s → Ready s → Unchanged ps s es →
      Lawful (view (preselection_at ps k).mode) (mark_at ps k) (preselection_at ps k).hysteresis (switch_in s k).on (seen_in k (answers_of s es))
  unfolding Unchanged seen_in answers_of Lawful
  lawful s [] c i u = tt
  lawful {t} s (e ∷ es) c i u =
      let l = law-step s e i u.0 in (
        subst (λ (r : ℤ). Obeys r (switch_in s k).on (switch_in (step_of s e).state k).on) (sym (tracked-is c e)) l.turns,
        lawful (step_of s e).state es (kept_step t c e) l.ready u.1,
      )

  pub ready-fresh : (t : List ℤ) → Ready (fresh_of t)
  ready-fresh t = record { four = fresh-four t; held = subst Held (sym (fresh-switch t k small)) fresh-held }
