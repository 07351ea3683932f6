-- WHERE M IS A MULTIPLE OF R, OLD AND NEW RULE AGREE: the new panel's count is the old one's position modulo R, their offsets are equal modulo R, so the distances are
-- equal, and with them all that follows. Commands move both alike, since a reset that 13 leaves is refused by neither. Paper 02, K4.
use Rattle.std.proofs.Math.Path.{◌≡◌, refl, sym, ap}
use Rattle.std.proofs.Common.{subst, ◌∙◌, mod-eq_of_lt, le-ltb, length-set}
use Rattle.std.specs.Prelude.{Option, Some, is_none, Bool, ◌&&◌, ℕ, zero, suc, ◌*◌, ◌≤◌, ◌<◌, ltb, leb, ℤ, length}
use Rattle.std.proofs.Math.Bool.{true, false, cond}
use mathlib.Core.List.{List, [], ◌∷◌}
use Rattle.std.proofs.Math.Decide.{ℕ_discrete}
use native.Mathlib.Omega.{arith}
use Rattle.std.proofs.Math.Dec.{T, eqb}
use Rattle.std.proofs.Math.IntN.{pos}
use Rattle.events.specs.declared.Event.{Event}
use Rattle.events.specs.declared.Event.TheVariants.{Telegram, Levels, Tick}
use Rattle.inputs.specs.Commands.{Acted, acted, reset_refusal, reset_of, clear_locks_of, extremes_at, clear_extremes_of, teach_of, refusal_of, carried_out, marks_after, command_of}
use Rattle.inputs.proofs.CommandLaws.{good-input, input-aimed}
use Rattle.inputs.specs.Levels.{edge_at, input_of, marks_at, commands_of, marks_left}
use Rattle.integers.specs.ChoiceLaws.{by-test, both, is_true}
use Rattle.integers.specs.Int.{P}
use Rattle.integers.specs.Limit.{Z}
use Rattle.integers.proofs.ModLaws.{floor-nat, mod_below, mod-again}
use Rattle.integers.specs.Round.{floor_mod}
use Rattle.integers.specs.TestLaws.{or-both, and_second}
use Rattle.panel.specs.declared.Answer.{Answer}
use Rattle.panel.specs.Step.{answer_of, on_telegram, on_levels, on_tick, step_of}
use Rattle.panel.proofs.ValidLaws.{good-step}
use Rattle.parameters.proofs.RangeLaws.{round-loop-range}
use Rattle.parameters.specs.Slots.{offset_slot, preselection_slot, round_loop, preselection, with_offset, with_preselection}
use Rattle.parameters.proofs.StoreLaws.{word-stored, word_kept, alike_refl, alike-sym, alike-trans, offset-alike, preselection-alike, stored-layout, stored-scaling}
use Rattle.parameters.specs.Valid.{Valid}
use Rattle.parameters.proofs.ValidLaws.{loads}
use Rattle.reading.specs.declared.Basis.{Basis}
use Rattle.reading.specs.AlikeLaws.{accepts-alike, directed-alike}
use Rattle.reading.specs.declared.Halves.{Halves}
use Rattle.reading.specs.Follow.{count_after, followed_of, held_of, basis_after}
use Rattle.reading.specs.FollowLaws.{by-follow}
use Rattle.reading.specs.Reading.{accepts_of, directed_at, basis_of, no_halves}
use Rattle.roundloop.proofs.CountLaws.{first-is, counted-position}
use Rattle.runs.specs.KeptLaws.{Kept, kept-bit, kept_fresh, kept-input, kept_step}
use Rattle.runs.specs.Run.{answers_of, some_command, some_event}
use Rattle.settings.specs.declared.Action.{Action}
use Rattle.settings.specs.declared.Action.TheVariants.{None, Reset, Freeze, ClearLocks, ClearExtremes, Teach}
use Rattle.settings.specs.AlikeLaws.{layout-alike, loop-alike}
use Rattle.settings.specs.Settings.{is_reset, Aimed, layout_of, input_at}
use Rattle.ssi.specs.Telegram.{error_reported}
use Rattle.state.specs.declared.Refusal.{Refusal}
use Rattle.state.specs.declared.Refusal.TheVariants.{LevelsAbove, BitAbove, OffsetOutOfRange, NothingToTake}
use Rattle.state.specs.declared.State.{State}
use Rattle.state.specs.Refusal.{no_note, note_number}
use Rattle.state.specs.State.{fresh_of, with_table, with_basis, with_levels, with_switches, error_of, halves_in, reread_of, received_of}
use Rattle.reading.specs.declared.Reading.{Reading}
use Rattle.state.specs.Valid.{Good}
use Rattle.state.proofs.ValidLaws.{good-fresh}
use Rattle.switching.specs.Switching.{all_ticked}
use Rattle.turntable.specs.OldRule.{old_received, old_telegram, old_step, old_answers}
use Rattle.turntable.specs.Turntable.{range, Same, AllSame, RulesAgree, barred_at, barred_by, barred_in}
use Rattle.turntable.proofs.TravelledLaws.{modulus-even}
use Rattle.turntable.proofs.TiedLaws.{Tables, Bases, Tied, tied, halves-tied, inputs-tied, recorded-tied, answer-tied, ended-tied, reread-tied}

-- ---- a table that loads, with M a multiple of its R

module _ {t : List ℤ} (v : Valid t) (h : 0 < round_loop t) (c : ℕ) (multiple : range t ≡ c * round_loop t) where
  abbrev R : ℕ
  R = round_loop t

  abbrev Ties : State → State → Type 0
  Ties s o = Tied R s o

  -- the table in force has the loaded one's round loop
  loop-kept : {s : State} → Kept t s → round_loop s.table ≡ R
  loop-kept k = loop-alike k.alike stored-scaling

  fresh-tied : Ties (fresh_of t) (fresh_of t)
  unfolding fresh_of
  fresh-tied =
      tied (record { alike = alike_refl t; long = refl; held = λ k _. refl; offsets = refl })
      (record { reported = refl; count = λ n. absurd n; start = λ _. ap pos (sym (mod-eq_of_lt h)) ∙ sym (floor-nat 0 R h) }) refl refl refl refl refl refl refl

  -- ---- a telegram

  module _ {s o : State} (k : Kept t s) (x : Ties s o) where
    abbrev here : ℕ → ℕ
    here w = directed_at s.table w

    count-is : (w : ℕ) → pos (count_after R (range t) s.live.basis (here w)) ≡ floor_mod (pos (here w)) (pos R)
    unfolding count_after
    count-is w =
        by-test s.live.basis.counted _ _ (λ (n : ℕ). pos n ≡ floor_mod (pos (here w)) (pos R))
        (λ y. counted-position R h (modulus-even (layout_of t)) c multiple s.live.basis.start s.live.basis.last (here w) (x.basis.count y))
        (λ _. first-is R h (here w))

    bit-same : (w : ℕ) → error_reported (layout_of s.table) w ≡ error_reported (layout_of o.table) w
    bit-same w = rw (layout-alike x.tables.alike stored-layout)

    bases : (w : ℕ) → Bases R (basis_after s.table s.live.basis w) (basis_of o.table w)
    unfolding basis_of held_of followed_of
    bases w =
        by-follow s.table (rw (loop-kept k) h) s.live.basis w (λ (b : Basis). Bases R b (basis_of o.table w))
        (λ y. record { reported = sym y ∙ bit-same w; count = x.basis.count; start = λ e. absurd (true-false e) })
        (λ n. rw (loop-kept k, layout-alike k.alike stored-layout)
        (record {
          reported = sym n ∙ bit-same w;
          count = λ _. count-is w;
          start = λ _. count-is w ∙ ap (λ (p : ℕ). floor_mod (pos p) (pos R)) (directed-alike x.tables.alike stored-layout stored-scaling w);
        }))
      where
        true-false : (true ≡ false) → ⊥
        true-false e = let z : ◌≡◌ {A = ℕ} 0 1 = cc in omega arith

    received-tied : (w : ℕ) → Ties (received_of s w) (old_received o w)
    unfolding received_of old_received
    received-tied w =
        reread-tied h (with_basis s (basis_after s.table s.live.basis w)) (with_basis o (basis_of o.table w)) (loop-kept k) x.tables (bases w)
        x.levels refl x.shown x.extremes x.driven x.switches

    received-halves : (w : ℕ) → halves_in (received_of s w) ≡ halves_in (old_received o w)
    unfolding received_of old_received reread_of
    received-halves w = halves-tied R h x.tables (loop-kept k) (bases w)

  -- ---- a command

  -- without error 3 the error bit does not report
  bit-off : {s : State} → Kept t s → T s.live.seen → eqb (error_of s) 3 ≡ false → s.live.basis.reported ≡ false
  bit-off k y e = sym (kept-bit k y) ∙ e

  -- a reset is refused by 13 in both panels or in neither, and by 12 in neither
  refusal-numbers : (seen : Bool) (error u p : ℕ) → (T seen → eqb error 3 ≡ false → u ≤ Z) → eqb (note_number (reset_refusal seen error p)) 12 ≡ false →
      reset_refusal seen error u ≡ reset_refusal seen error p
  unfolding reset_refusal
  refusal-numbers false error u p f n = refl
  refusal-numbers true error u p f n = go (eqb error 3) refl n
    where
      low : (b : Bool) → eqb (note_number (cond b (Some OffsetOutOfRange) no_note)) 12 ≡ false → no_note ≡ cond b (Some OffsetOutOfRange) no_note
      low true n = absurd (let z : ◌≡◌ {A = ℕ} 0 1 = cc in omega arith)
      low false n = refl

      refused : Bool → ℕ → Option Refusal
      refused b start = cond b (Some NothingToTake) (cond (ltb Z start) (Some OffsetOutOfRange) no_note)

      go : (b : Bool) → eqb error 3 ≡ b → eqb (note_number (refused b p)) 12 ≡ false → refused b u ≡ refused b p
      go true e n = refl
      go false e n = rw (le-ltb Z u (f tt e)) (low (ltb Z p) n)

  module _ {s o : State} (k : Kept t s) (x : Ties s o) where
    -- without error 3 the count is below R
    count_fits : T s.live.seen → eqb (error_of s) 3 ≡ false → s.live.basis.start ≤ Z
    count_fits y e =
        let r = bit-off k y e in
        let u : s.live.basis.start ≡ P (floor_mod (pos o.live.basis.start) (pos R)) = ap P (x.basis.start r) in
        omega (arith, u, mod_below R h (pos o.live.basis.start), round-loop-range v)

    refusal-tied : (a : Action) → eqb (note_number (refusal_of a o)) 12 ≡ false → refusal_of a s ≡ refusal_of a o
    unfolding refusal_of
    refusal-tied None n = refl
    refusal-tied Freeze n = refl
    refusal-tied ClearLocks n = refl
    refusal-tied ClearExtremes n = refl
    refusal-tied Reset n =
        rw (← x.seen, ← x.reading) (refusal-numbers s.live.seen (error_of s) s.live.basis.start o.live.basis.start count_fits (rw (x.seen, x.reading) n))
    refusal-tied (Teach j) n = rw (x.seen, x.reading)

  -- what a reset and a teach store
  reset-tables : {s o : State} → Good s → Ties s o → s.live.basis.reported ≡ false →
      Tables R (with_offset s.table (pos s.live.basis.start)) (with_offset o.table (pos o.live.basis.start))
  reset-tables {s} {o} g x e =
      record {
        alike = alike-trans (offset-alike s.table u) (alike-trans x.tables.alike (alike-sym (offset-alike o.table p)));
        long = length-set s.table offset_slot u ∙ x.tables.long ∙ sym (length-set o.table offset_slot p);
        held = λ k l.
            word_kept s.table offset_slot u (preselection_slot k) (λ e. omega arith) ∙ x.tables.held k l
            ∙ sym (word_kept o.table offset_slot p (preselection_slot k) (λ e. omega arith));
        offsets = rw (word-stored s.table offset_slot u (omega (arith, g.table.long)), word-stored o.table offset_slot p (omega (arith, g.table.long, x.tables.long)))
            (ap (λ (z : ℤ). floor_mod z (pos R)) (x.basis.start e) ∙ mod-again R h p);
      }
    where
      u : ℤ
      u = pos s.live.basis.start

      p : ℤ
      p = pos o.live.basis.start

  taught : {a b : List ℤ} → length a ≡ 104 → Tables R a b → (k : ℕ) (r : ℤ) → k < 4 → Tables R (with_preselection a k r) (with_preselection b k r)
  taught {a} {b} long x k r small =
      record {
        alike = alike-trans (preselection-alike a k r small) (alike-trans x.alike (alike-sym (preselection-alike b k r small)));
        long = length-set a (preselection_slot k) r ∙ x.long ∙ sym (length-set b (preselection_slot k) r);
        held = λ j l. held j l (ℕ_discrete j k);
        offsets = rw (word_kept a (preselection_slot k) r offset_slot (λ e. omega arith), word_kept b (preselection_slot k) r offset_slot (λ e. omega arith)) x.offsets;
      }
    where
      held : (j : ℕ) → j < 4 → Dec (j ≡ k) → preselection (with_preselection a k r) j ≡ preselection (with_preselection b k r) j
      held j l (yes e) =
          rw e
          (word-stored a (preselection_slot k) r (omega (arith, long)) ∙ sym (word-stored b (preselection_slot k) r (omega (arith, long, x.long))))
      held j l (no n) =
          word_kept a (preselection_slot k) r (preselection_slot j) (λ e. n (omega arith)) ∙ x.held j l ∙ sym (word_kept b (preselection_slot k) r (preselection_slot j) (λ e. n (omega arith)))

  -- what a command leaves of both, and its note
  record Left (x y : Acted) : Type 0 where
    state : Ties x.state y.state
    note : x.note ≡ y.note

  -- a reset that is not refused has a telegram, and no error 3
  allowed : (seen : Bool) (error u : ℕ) → T (is_none (reset_refusal seen error u)) → T seen × (eqb error 3 ≡ false)
  unfolding reset_refusal
  allowed false error u y = absurd y
  allowed true error u y = (tt, go (eqb error 3) y)
    where
      go : (b : Bool) → T (is_none (cond b (Some NothingToTake) (cond (ltb Z u) (Some OffsetOutOfRange) no_note))) → b ≡ false
      go true y = absurd y
      go false y = refl

  module _ {s o : State} (g : Good s) (k : Kept t s) (x : Ties s o) where
    abbrev u : ℤ
    u = pos s.live.basis.start

    abbrev p : ℤ
    p = pos o.live.basis.start

    unreported : T (is_none (refusal_of Reset s)) → s.live.basis.reported ≡ false
    unfolding refusal_of
    unreported y =
        let n = allowed s.live.seen (error_of s) s.live.basis.start y in
        bit-off k n.0 n.1

    reset-loop : round_loop (with_offset s.table u) ≡ R
    reset-loop = loop-alike (alike-trans (offset-alike s.table u) k.alike) stored-scaling

    reset-tied : T (is_none (refusal_of Reset s)) → Ties (reset_of s) (reset_of o)
    unfolding reset_of
    reset-tied y =
        reread-tied h (with_table s (with_offset s.table u)) (with_table o (with_offset o.table p)) reset-loop (reset-tables g x (unreported y)) x.basis
        x.levels x.seen x.shown x.extremes x.driven x.switches

    reset-halves : T (is_none (refusal_of Reset s)) → halves_in (reset_of s) ≡ halves_in (reset_of o)
    unfolding reset_of reread_of
    reset-halves y = halves-tied R h (reset-tables g x (unreported y)) reset-loop x.basis

    -- the same live values, and tables that are tied
    kept-live : {a b : List ℤ} → Tables R a b → Ties (with_table s a) (with_table o b)
    kept-live z =
        tied z x.basis x.levels x.seen x.reading x.shown x.extremes x.driven x.switches

    command-tied : (a : Action) → Aimed a → eqb (note_number (refusal_of a o)) 12 ≡ false → Left (command_of a s) (command_of a o)
    unfolding command_of carried_out clear_locks_of extremes_at clear_extremes_of teach_of
    command-tied a m n = rw (← same) (both (is_none (refusal_of a s)) _ _ _ _ Left (λ y. record { state = done a m y; note = refl }) (λ _. record { state = x; note = refl }))
      where
        same : refusal_of a s ≡ refusal_of a o
        same = refusal-tied k x a n

        r : ℤ
        r = s.live.reading.result

        done : (a : Action) → Aimed a → T (is_none (refusal_of a s)) → Ties (carried_out a s) (carried_out a o)
        done None m y = x
        done Freeze m y = x
        done Reset m y = reset-tied y
        done ClearLocks m y =
            tied x.tables x.basis x.levels x.seen x.reading x.shown x.extremes x.driven (rw x.switches)
        done ClearExtremes m y =
            tied x.tables x.basis x.levels x.seen x.reading x.shown (rw (x.seen, x.reading)) (rw x.driven) x.switches
        done (Teach j) m y =
            kept-live
            (subst (λ (z : ℤ). Tables R (with_preselection s.table j r) (with_preselection o.table j z)) (ap (λ (z : Reading). z.result) x.reading)
            (taught g.table.long x.tables j r m))

    marks-tied : (a : Action) (marks : Halves) → eqb (note_number (refusal_of a o)) 12 ≡ false → marks_after a s marks ≡ marks_after a o marks
    unfolding marks_after
    marks-tied a marks n = rw (← refusal-tied k x a n) (go a)
      where
        go : (a : Action) → cond (is_reset a && is_none (refusal_of a s)) (halves_in (reset_of s)) marks ≡ cond (is_reset a && is_none (refusal_of a s)) (halves_in (reset_of o)) marks
        go None = refl
        go Freeze = refl
        go ClearLocks = refl
        go ClearExtremes = refl
        go (Teach j) = refl
        go Reset = both (is_none (refusal_of Reset s)) (halves_in (reset_of s)) marks (halves_in (reset_of o)) marks (λ (m n : Halves). m ≡ n) reset-halves (λ _. refl)

  -- ---- an input, and the three of them

  module _ (l i : ℕ) (small : i < 3) (x y : Acted) (g : Good x.state) (k : Kept t x.state) (z : Left x y) (n : barred_at l i y ≡ false) where
    abbrev table : List ℤ
    table = x.state.table

    edge-tied : edge_at x.state l i ≡ edge_at y.state l i
    unfolding edge_at
    edge-tied = rw (inputs-tied z.state.tables i small, z.state.levels)

    action-tied : (input_at table i).action ≡ (input_at y.state.table i).action
    action-tied = rw (inputs-tied z.state.tables i small)

    -- where it acts, 12 refuses it in neither
    unbarred : T (edge_at y.state l i) → eqb (note_number (refusal_of (input_at table i).action y.state)) 12 ≡ false
    unfolding barred_at
    unbarred e = rw action-tied (and_second (edge_at y.state l i) _ n (is_true (edge_at y.state l i) e))

    input-tied : Left (input_of l i x) (input_of l i y)
    unfolding input_of
    input-tied =
        rw edge-tied
        (both (edge_at y.state l i) _ x _ y Left
        (λ e. let w = command-tied g k z.state (input_at table i).action (input-aimed table i) (unbarred e) in
        rw (← action-tied, z.note) (record { state = w.state; note = rw w.note })) (λ _. z))

    marks-at : (marks : Halves) → marks_at l i x marks ≡ marks_at l i y marks
    unfolding marks_at
    marks-at marks =
        rw (edge-tied, ← action-tied)
        (both (edge_at y.state l i) _ marks _ marks (λ (m n : Halves). m ≡ n) (λ e. marks-tied g k z.state (input_at table i).action marks (unbarred e)) (λ _. refl))

  module _ (s o : State) (l : ℕ) (g : Good s) (k : Kept t s) (x : Ties s o)
      (n₀ : barred_at l 0 (acted o no_note) ≡ false)
      (n₁ : barred_at l 1 (input_of l 0 (acted o no_note)) ≡ false)
      (n₂ : barred_at l 2 (input_of l 1 (input_of l 0 (acted o no_note))) ≡ false) where
    abbrev x₁ : Acted
    x₁ = input_of l 0 (acted s no_note)

    abbrev y₁ : Acted
    y₁ = input_of l 0 (acted o no_note)

    g₁ : Good x₁.state
    g₁ = good-input l 0 (acted s no_note) g

    k₁ : Kept t x₁.state
    k₁ = kept-input t l 0 (acted s no_note) k

    g₂ : Good (input_of l 1 x₁).state
    g₂ = good-input l 1 x₁ g₁

    k₂ : Kept t (input_of l 1 x₁).state
    k₂ = kept-input t l 1 x₁ k₁

    z₀ : Left (acted s no_note) (acted o no_note)
    z₀ = record { state = x; note = refl }

    z₁ : Left x₁ y₁
    z₁ = input-tied l 0 (omega arith) (acted s no_note) (acted o no_note) g k z₀ n₀

    z₂ : Left (input_of l 1 x₁) (input_of l 1 y₁)
    z₂ = input-tied l 1 (omega arith) x₁ y₁ g₁ k₁ z₁ n₁

    commands-tied : Left (commands_of s l) (commands_of o l)
    unfolding commands_of
    commands-tied = input-tied l 2 (omega arith) (input_of l 1 x₁) (input_of l 1 y₁) g₂ k₂ z₂ n₂

    marks-left : marks_left s l ≡ marks_left o l
    unfolding marks_left
    marks-left =
        rw (marks-at l 0 (omega arith) (acted s no_note) (acted o no_note) g k z₀ n₀ no_halves, marks-at l 1 (omega arith) x₁ y₁ g₁ k₁ z₁ n₁ _)
        (marks-at l 2 (omega arith) (input_of l 1 x₁) (input_of l 1 y₁) g₂ k₂ z₂ n₂ _)

  -- ---- an event, and a run

  -- two answers, and what they leave
  record Stepped (a b : Answer) : Type 0 where
    same : Same a b
    state : Ties a.state b.state

  stepped : {s o : State} → Ties s o → (n n' : Option Refusal) (halves halves' : Halves) → n ≡ n' → halves ≡ halves' → Stepped (answer_of s n halves) (answer_of o n' halves')
  unfolding answer_of
  stepped x n n' halves halves' e f = record { same = answer-tied x n n' halves halves' e f; state = x }

  levels-set : {s o : State} → Ties s o → (l : ℕ) → Ties (with_levels s l) (with_levels o l)
  levels-set x l =
      tied x.tables x.basis refl x.seen x.reading x.shown x.extremes x.driven x.switches

  ticked : {s o : State} → Ties s o → (ms : ℕ) → Ties (with_switches s (all_ticked ms s.live.switches)) (with_switches o (all_ticked ms o.live.switches))
  ticked x ms =
      tied x.tables x.basis x.levels x.seen x.reading x.shown x.extremes x.driven (rw x.switches)

  step-tied : (s o : State) → Good s → Kept t s → Ties s o → (e : Event) → barred_by o e ≡ false → Stepped (step_of s e) (old_step o e)
  unfolding step_of on_telegram old_step old_telegram on_levels on_tick some_command
  step-tied s o g k x (Telegram w) n =
      rw (accepts-alike x.tables.alike stored-layout w)
      (both (accepts_of o.table w) _ _ _ _ Stepped
      (λ _. stepped (ended-tied (received-tied k x w)) no_note no_note _ _ refl (received-halves k x w)) (λ _. stepped x (Some BitAbove) (Some BitAbove) no_halves no_halves refl refl))
  step-tied s o g k x (Levels l) n =
      both (leb l 7) _ _ _ _ Stepped
      (λ y. let m = and_second (leb l 7) _ n (is_true (leb l 7) y) in
      let m₁ = or-both (barred_at l 0 (acted o no_note)) _ m in
      let m₂ = or-both (barred_at l 1 (input_of l 0 (acted o no_note))) _ m₁.1 in
      let z = commands-tied s o l g k x m₁.0 m₂.0 m₂.1 in
      stepped (ended-tied (levels-set z.state l)) _ _ _ _ z.note (marks-left s o l g k x m₁.0 m₂.0 m₂.1))
      (λ _. stepped x (Some LevelsAbove) (Some LevelsAbove) no_halves no_halves refl refl)
  step-tied s o g k x (Tick ms) n = stepped (recorded-tied (ticked x ms)) no_note no_note no_halves no_halves refl refl

  run-tied : (s o : State) → Good s → Kept t s → Ties s o → (es : List Event) → barred_in old_step o es ≡ false → AllSame (answers_of s es) (old_answers o es)
  unfolding answers_of old_answers some_event AllSame
  run-tied s o g k x [] n = tt
  run-tied s o g k x (e ∷ es) n =
      let m = or-both (barred_by o e) _ n in
      let y = step-tied s o g k x e m.0 in
      (y.same, run-tied (step_of s e).state (old_step o e).state (good-step g e) (kept_step t k e) y.state es m.1)

-- WHERE M IS A MULTIPLE OF R, OLD AND NEW RULE AGREE
pub rules-agree : RulesAgree
rules-agree t e c multiple es n =
    run-tied (loads t e) above c multiple (fresh_of t) (fresh_of t) (good-fresh (loads t e)) (kept_fresh t) (fresh-tied (loads t e) above c multiple) es n
  where
    above : 0 < round_loop t
    above = go (round_loop t) multiple
      where
        go : (r : ℕ) → range t ≡ c * r → 0 < r
        go zero m = absurd (omega (arith, (modulus-even (layout_of t)).some))
        go (suc r) m = omega arith
