-- FORWARD MEANS FORWARD, proved. Each step from position to result keeps the order of what it is given: the distance, the scaling with its rounding, the curve, the
-- rounding of its value; and so does their chain. One argument for the three modes of linearization: which one it is matters to the curve alone (RisingLaws).
-- Runs at equal offset read as under one table, and between resets a run keeps its offset. Request K14. Assumes nothing.
use Rattle.std.specs.Prelude.{None, ◌≡◌, refl, Bool, true, false, not, List, [], ◌∷◌, ◌++◌, ℕ, zero, suc, ◌+◌, ◌≤◌, ◌<◌, T, eqb, ltb, leb, ℤ, pos, ◌*ℤ◌, length, ◌≤ℤ◌, ◌<ℤ◌}
use Rattle.std.proofs.Common.{sym, ap, subst, ◌∙◌, add-one, arith, eq-eqb, ne_eqb, lt-ltb}
use Rattle.std.specs.Int.Signed.{le_z, lt_z}
use Rattle.events.specs.declared.Event.{Event}
use Rattle.events.specs.declared.Event.TheVariants.{Telegram, Levels, Tick}
use Rattle.integers.specs.Choice.{some}
use Rattle.integers.specs.ChoiceLaws.{by-test, is_true}
use Rattle.integers.specs.Fraction.{whole}
use Rattle.integers.specs.IntLaws.{ints}
use Rattle.integers.proofs.OrderLaws.{nearest-mono}
use Rattle.integers.specs.RingLaws.{var, lit, ◌⊕◌, ◌⊖◌, ◌⊗◌, le, mul_mono}
use Rattle.integers.specs.Round.{round_div}
use Rattle.integers.proofs.RoundLaws.{round_mono}
use Rattle.integers.specs.TestLaws.{or-both, and_second}
use Rattle.measurement.specs.declared.Scaling.{Scaling}
use Rattle.measurement.proofs.AccuracyLaws.{curve-low, no-error}
use Rattle.measurement.specs.Curve.{Point, point_at, points_from, curve, linearized_of, Ordered}
use Rattle.measurement.specs.Measure.{directed_of, distance_of, scaled_of, used_points, value_of, measured_of}
use Rattle.parameters.specs.Alike.{Alike, stored_slot}
use Rattle.parameters.specs.Load.{load_refusal}
use Rattle.parameters.proofs.RangeLaws.{points-in-use-range}
use Rattle.parameters.specs.SearchLaws.{some-none, some_same}
use Rattle.parameters.specs.Slots as slot
use Rattle.parameters.proofs.StoreLaws.{alike-sym, alike-trans, stored-layout, stored-scaling, stored-span, stored-points}
use Rattle.parameters.specs.Valid.{Valid}
use Rattle.parameters.proofs.ValidLaws.{loads, valid-loads}
use Rattle.reading.specs.AlikeLaws.{plain-alike, reading-alike}
use Rattle.reading.specs.Reading.{accepts_of, directed_at, basis_of, measured_at, reading_of, no_halves}
use Rattle.settings.specs.AlikeLaws.{layout-alike, direction-alike, loop-alike, mode-alike, used-alike, points-alike}
use Rattle.settings.specs.Settings.{scaling_of, points_of}
use Rattle.settings.specs.SettingsLaws.{points-ordered, point-y}
use Rattle.state.specs.declared.State.{State}
use Rattle.state.specs.Refusal.{no_note}
use Rattle.state.specs.State.{fresh_of}
use Rattle.state.specs.Valid.{Good}
use Rattle.state.proofs.ValidLaws.{good-fresh}
use Rattle.panel.specs.Step.{unasked, answer_of}
use Rattle.runs.specs.Book.{Book, fresh_book, takes, resets, book_input, book_step, book_from, book_of}
use Rattle.runs.proofs.BookLaws.{Matches, book-run, book-fresh, plain-run}
use Rattle.runs.proofs.Demand3Laws.{good-run, kept_run}
use Rattle.runs.specs.KeptLaws.{Kept, kept_fresh}
use Rattle.runs.specs.Run.{run_of, last_answer}
use Rattle.runs.proofs.RunLaws.{answer-own, last-own, last-state, own-result, own-error}
use Rattle.forward.specs.Forward.{falls_after, y_falls, Forward, position_at, reading_at, ForwardReadings, ForwardRuns, reset_by, reset_in, followed_by, ForwardTelegrams}
use Rattle.forward.specs.RisingLaws.{never_falls_from, NeverFalls, curve-rises}

-- ---- the chain from position to value: each step keeps the order

distance-mono : (p p' : ℕ) (O : ℤ) (R : ℕ) → R ≡ 0 → p ≤ p' → distance_of p O R ≤ℤ distance_of p' O R
unfolding distance_of
distance-mono p p' O R e h = rw (eq-eqb R 0 e) (le (lit p ⊖ var O) (lit p' ⊖ var O) (omega arith))

scaled-mono : (d d' : ℤ) (f g : ℕ) (A : ℤ) → d ≤ℤ d' → scaled_of d f g A ≤ℤ scaled_of d' f g A
unfolding scaled_of
scaled-mono d d' f g A h =
    let k : round_div (d *ℤ pos f) (pos g) ≤ℤ round_div (d' *ℤ pos f) (pos g) = round_mono (d *ℤ pos f) (d' *ℤ pos f) (pos g) (mul_mono d d' (pos f) h (omega (arith, ints))) in
    le (var (round_div (d *ℤ pos f) (pos g)) ⊕ var A) (var (round_div (d' *ℤ pos f) (pos g)) ⊕ var A) (omega (arith, ints))

linearized-mono : (m : ℕ) (ps : List Point) → Ordered m ps → NeverFalls m ps → (v v' : ℤ) → v ≤ℤ v' → linearized_of m ps v ≤ℤ linearized_of m ps v'
unfolding linearized_of
linearized-mono m ps o f v v' h =
    let one : 0 < 1 = omega arith in
    nearest-mono (curve m ps (whole v)) (curve m ps (whole v')) (curve-low m ps o (whole v) one) (curve-low m ps o (whole v') one)
    (curve-rises m ps o f (whole v) (whole v') one one (le (var v ⊗ lit 1) (var v' ⊗ lit 1) (omega (arith, ints))))

module _ (s : Scaling) (ws : List ℤ) (no_loop : s.round_loop ≡ 0) (o : Ordered s.linearization (used_points s ws)) (f : NeverFalls s.linearization (used_points s ws)) where
  pub value-mono : (p p' : ℕ) → p ≤ p' → value_of s ws p ≤ℤ value_of s ws p'
  unfolding value_of
  value-mono p p' h =
      linearized-mono s.linearization (used_points s ws) o f _ _
      (scaled-mono _ _ s.factor s.divider s.additive (distance-mono p p' s.offset s.round_loop no_loop h))

  -- without error the result is the value
  measured-mono : (p p' : ℕ) (b b' : Bool) → p ≤ p' → (measured_of s ws p b).error ≡ None → (measured_of s ws p' b').error ≡ None →
      (measured_of s ws p b).result ≤ℤ (measured_of s ws p' b').result
  unfolding measured_of
  measured-mono p p' b b' h k k' =
      rw (no-error b (value_of s ws p) k, no-error b' (value_of s ws p') k') (value-mono p p' h)

-- ---- a table's slots, and its points

-- with the mode on, no used y is below the one before it
y-rises : {t : List ℤ} → Valid t → y_falls t ≡ false → (slot.linearization t ≡ 0 → ⊥) → (j : ℕ) → suc j < slot.points_in_use t → slot.point_y t j ≤ℤ slot.point_y t (suc j)
unfolding y_falls falls_after
y-rises {t} v never on j u =
    let f : some 23 (falls_after t) ≡ false = and_second (not (eqb (slot.linearization t) 0)) (some 23 (falls_after t)) never (rw (ne_eqb (slot.linearization t) 0 on)) in
    let n = some-none (falls_after t) 23 j f (omega (arith, points-in-use-range v)) in
    let b = and_second (ltb (j + 1) (slot.points_in_use t)) (lt_z (slot.point_y t (j + 1)) (slot.point_y t j)) n (lt-ltb (j + 1) (slot.points_in_use t) (omega arith)) in
    subst (λ (k : ℕ). slot.point_y t j ≤ℤ slot.point_y t k) (add-one j) (omega (arith, ints))

listed : (ws : List ℤ) (n : ℕ) → ((j : ℕ) → suc j < n → T (le_z (point_at ws j).y (point_at ws (suc j)).y)) → (i m : ℕ) → i + m < n → never_falls_from (point_at ws i) (points_from ws (suc i) m)
unfolding never_falls_from points_from
listed ws n f i zero h = tt
listed ws n f i (suc m) h = (f i (omega arith), listed ws n f (suc i) m (omega arith))

by_mode_lem : (m : ℕ) (ws : List ℤ) (n : ℕ) → ((m ≡ 0 → ⊥) → (j : ℕ) → suc j < n → T (le_z (point_at ws j).y (point_at ws (suc j)).y)) → NeverFalls m (points_from ws 0 n)
unfolding NeverFalls points_from
by_mode_lem zero ws n f = tt
by_mode_lem (suc m) ws zero f = tt
by_mode_lem (suc m) ws (suc n) f = listed ws (suc n) (f (λ e. omega arith)) 0 n (omega arith)

points-never-fall : {t : List ℤ} → Valid t → y_falls t ≡ false → NeverFalls (slot.linearization t) (used_points (scaling_of t) (points_of t))
unfolding used_points scaling_of
points-never-fall {t} v never =
    by_mode_lem (slot.linearization t) (points_of t) (slot.points_in_use t)
    (λ on j h. rw (point-y v j, point-y v (suc j)) (y-rises v never on j h).le)

-- ---- of readings

-- with direction forward the position after direction is the position
directed-forward : (t : List ℤ) (w : ℕ) → slot.direction t ≡ 0 → directed_at t w ≡ position_at t w
unfolding directed_at directed_of
directed-forward t w e = rw e

pub readings : ForwardReadings
unfolding reading_of measured_at basis_of scaling_of
readings t f w w' h =
    let v = loads t f.loads in
    measured-mono (scaling_of t) (points_of t) f.no_loop (points-ordered v) (points-never-fall v f.never-falls) (directed_at t w) (directed_at t w') _ _
    (rw (directed-forward t w f.forward, directed-forward t w' f.forward) h)

-- what may be told where digits ran back though direction is forward and there is no round loop: the y falls somewhere
pub then-falls : (t : List ℤ) → load_refusal t ≡ 0 → slot.direction t ≡ 0 → slot.round_loop t ≡ 0 → (w w' : ℕ) → position_at t w ≤ position_at t w' →
    (reading_at t w).error ≡ None → (reading_at t w').error ≡ None → (reading_at t w').result <ℤ (reading_at t w).result → y_falls t ≡ true
then-falls t e d l w w' h k k' back = go (y_falls t) refl
  where
    go : (b : Bool) → y_falls t ≡ b → b ≡ true
    go true y = refl
    go false y =
        let on = readings t (record { loads = e; forward = d; no_loop = l; never-falls = y }) w w' h k k' in
        absurd (omega (arith, ints))

-- ---- a table with another offset and other preselections goes forward as well

module _ {s t : List ℤ} (a : Alike stored_slot s t) (valid : Valid s) (f : Forward t) where
  long : length s ≡ length t
  long = valid.long ∙ sym (loads t f.loads).long

  y-alike : (j : ℕ) → slot.point_y s j ≡ slot.point_y t j
  y-alike j = sym (point-y valid j) ∙ ap (λ (ws : List ℤ). (point_at ws j).y) (points-alike a long stored-points) ∙ point-y (loads t f.loads) j

  falls-alike : y_falls s ≡ y_falls t
  unfolding y_falls falls_after
  falls-alike =
      rw (mode-alike a stored-scaling, some_same (falls_after s) (falls_after t) 23 (λ j _. rw (used-alike a stored-scaling, y-alike j, y-alike (j + 1))))

  forward-alike : Forward s
  forward-alike =
      record {
        loads = valid-loads valid;
        forward = direction-alike a stored-scaling ∙ f.forward;
        no_loop = loop-alike a stored-scaling ∙ f.no_loop;
        never-falls = falls-alike ∙ f.never-falls;
      }

-- ---- of runs

-- what a run without a round loop last answered is the reading of the book's telegram, under any table that has the book's offset and is else the loaded one but
-- for preselections
module _ {t : List ℤ} (v : Valid t) (none : slot.round_loop t ≡ 0) (es : List Event) where
  abbrev end : State
  end = run_of (fresh_of t) es

  good-end : Good end
  good-end = good-run (good-fresh v) es

  kept-end : Kept t end
  kept-end = kept_run (kept_fresh t) es

  matches-end : Matches t end (book_of t es)
  matches-end = book-run (good-fresh v) (kept_fresh t) (book-fresh t) es

  module _ (y : T (book_of t es).seen) {s : List ℤ} (valid : Valid s) (a : Alike stored_slot s t) (same : slot.offset s ≡ (book_of t es).offset) where
    end-reading : end.live.reading ≡ reading_at s (book_of t es).telegram
    end-reading =
        kept-end.read (subst T (sym matches-end.seen) y)
        ∙ reading-alike (alike-trans kept-end.alike (alike-sym a)) stored-scaling (good-end.table.long ∙ sym valid.long) stored-points
        (matches-end.offset ∙ sym same) stored-span end.live.basis
        ∙ ap (reading_of s) (matches-end.basis ∙ plain-run t none (fresh_book t) es (λ n. absurd n) y ∙ sym (plain-alike a stored-layout stored-scaling (book_of t es).telegram))

    last-reading : ((last_answer t es).result ≡ (reading_at s (book_of t es).telegram).result) × ((last_answer t es).error ≡ (reading_at s (book_of t es).telegram).error)
    unfolding answer_of
    last-reading =
        let o = last-own (unasked (fresh_of t)) es (answer-own (fresh_of t) no_note no_halves) in
        rw (own-result o, own-error o, last-state (unasked (fresh_of t)) es, end-reading) (refl, refl)

-- both are read under the table in force at the end of the first
pub runs : ForwardRuns
runs t f es es' y y' same h k k' =
    let first = last-reading v none es y valid alike (matches-end v none es).offset in
    let second = last-reading v none es' y' valid alike ((matches-end v none es).offset ∙ same) in
    rw (first.0, second.0)
    (readings s (forward-alike alike valid f) (book_of t es).telegram (book_of t es').telegram
    (rw (layout-alike alike stored-layout) h) (sym first.1 ∙ k) (sym second.1 ∙ k'))
  where
    v : Valid t
    v = loads t f.loads

    none : slot.round_loop t ≡ 0
    none = f.no_loop

    s : List ℤ
    s = (run_of (fresh_of t) es).table

    valid : Valid s
    valid = (good-end v none es).table

    alike : Alike stored_slot s t
    alike = (kept-end v none es).alike

-- ---- of two telegrams: between resets the book keeps its offset

inputs-still : (t : List ℤ) (l : ℕ) (b : Book) → ((i : ℕ) → i < 3 → resets t b l i ≡ false) → book_input t l 2 (book_input t l 1 (book_input t l 0 b)) ≡ b
unfolding book_input
inputs-still t l b none = rw (none 0 (omega arith), none 1 (omega arith), none 2 (omega arith))

step-still : (t : List ℤ) (b : Book) (e : Event) → reset_by t b e ≡ false → (book_step t b e).offset ≡ b.offset
unfolding reset_by book_step
step-still t b (Telegram w) n = by-test (accepts_of t w) (takes t b w) b (λ (x : Book). x.offset ≡ b.offset) (λ _. refl) (λ _. refl)
step-still t b (Levels l) n =
    by-test (leb l 7) _ b (λ (x : Book). x.offset ≡ b.offset)
    (λ y. rw (inputs-still t l b (λ i h. some-none (resets t b l) _ i (and_second (leb l 7) _ n (is_true (leb l 7) y)) h))) (λ _. refl)
step-still t b (Tick ms) n = refl

pub between-resets : (t : List ℤ) (b : Book) (es : List Event) → reset_in t b es ≡ false → (book_from t b es).offset ≡ b.offset
unfolding reset_in book_from
between-resets t b [] n = refl
between-resets t b (e ∷ es) n =
    let none = or-both (reset_by t b e) (reset_in t (book_step t b e) es) n in
    between-resets t (book_step t b e) es none.1 ∙ step-still t b e none.0

book-append : (t : List ℤ) (b : Book) (es fs : List Event) → book_from t b (es ++ fs) ≡ book_from t (book_from t b es) fs
unfolding book_from
book-append t b [] fs = refl
book-append t b (e ∷ es) fs = book-append t (book_step t b e) es fs

-- the book has the telegram that comes last
book-telegram : (t : List ℤ) (b : Book) (es : List Event) (w : ℕ) → T (accepts_of t w) → book_from t b (followed_by es w) ≡ takes t (book_from t b es) w
unfolding book_from book_step
book-telegram t b es w y = rw (book-append t b es (Telegram w ∷ []), is_true (accepts_of t w) y)

pub telegrams : ForwardTelegrams
telegrams t f es between w w' y y' none h =
    runs t f so_far (followed_by (so_far ++ between) w') (rw first tt) (rw second tt) (rw second (sym (between-resets t (book_of t so_far) between none))) (rw (first, second) h)
  where
    so_far : List Event
    so_far = followed_by es w

    first : book_of t so_far ≡ takes t (book_of t es) w
    first = book-telegram t (fresh_book t) es w y

    second : book_of t (followed_by (so_far ++ between) w') ≡ takes t (book_from t (book_of t so_far) between) w'
    second = book-telegram t (fresh_book t) (so_far ++ between) w' y' ∙ ap (λ (b : Book). takes t b w') (book-append t (fresh_book t) so_far between)
