-- Two states of a turntable's panel that tell the same: tables that differ in the offset alone, and there by a multiple of R; a count that is the other's position
-- modulo R. Their distances are equal, so their readings and marks are, and what follows from them. For the theorem on the rule before K4. Assumes nothing.
use Rattle.std.specs.Prelude.{Option, ◌≡◌, Bool, true, false, List, ℕ, ◌<◌, T, ℤ, pos, length, Some}
use Rattle.std.proofs.Math.Path.{refl, sym}
use Rattle.std.proofs.Common.{ap, ◌∙◌, arith, ne_eqb}
use Rattle.inputs.specs.Freeze.{frozen}
use Rattle.integers.proofs.ModLaws.{mod-sub, mod-again}
use Rattle.integers.specs.Round.{rounding, floor_mod}
use Rattle.measurement.specs.declared.Error.TheVariants as Error
use Rattle.measurement.specs.declared.Measurement.{Measurement}
use Rattle.measurement.specs.declared.Scaling.{Scaling}
use Rattle.measurement.specs.Curve.{linearized_by}
use Rattle.measurement.specs.Measure.{measured, distance_of, distance_at, scaled_at, scaled_by, judged_of, used_points, value_of, measured_of, scaling_half, line_half, measurement_of}
use Rattle.panel.specs.Step.{answer_of, switches_after, switched_of, shown_after, displayed_of, settled_of, ended_of}
use Rattle.parameters.specs.Alike.{Alike, stored_slot}
use Rattle.parameters.specs.Slots.{nat_at, offset, round_loop, preselection}
use Rattle.parameters.proofs.StoreLaws.{stored-span, stored-points, stored-input, stored-preselection}
use Rattle.reading.specs.declared.Basis.{Basis}
use Rattle.reading.specs.declared.Halves.{Halves}
use Rattle.reading.specs.Reading.{measured_at, measurement_at, reading_of, no_halves, marks_of, halves_of}
use Rattle.settings.specs.AlikeLaws.{points-alike, span-alike, input-alike, preselections-alike}
use Rattle.settings.specs.Settings.{scaling_of, points_of, span_of, preselections_of, input_at}
use Rattle.state.specs.declared.Refusal.{Refusal}
use Rattle.state.specs.declared.State.{State}
use Rattle.state.specs.State.{recorded_of, reread_of}
use Rattle.turntable.specs.Turntable.{Same}

-- ---- numbers: a count, and a position that it is modulo R

distance-tied : (R : ℕ) → 0 < R → (u p : ℕ) (O O' : ℤ) → pos u ≡ floor_mod (pos p) (pos R) → floor_mod O (pos R) ≡ floor_mod O' (pos R) → distance_of u O R ≡ distance_of p O' R
unfolding distance_of
distance-tied R h u p O O' e f =
    rw (ne_eqb R 0 (λ z. omega arith)) (mod-sub R h (pos u) (pos p) O O' (ap (λ (z : ℤ). floor_mod z (pos R)) e ∙ mod-again R h (pos p)) f)

-- two scalings that differ in the offset alone read alike where the distances are equal
record Scalings (a b : Scaling) : Type 0 where
  factor : a.factor ≡ b.factor
  divider : a.divider ≡ b.divider
  additive : a.additive ≡ b.additive
  linearization : a.linearization ≡ b.linearization
  used : a.used ≡ b.used

module _ {a b : Scaling} (x : Scalings a b) (ws : List ℤ) (u p : ℕ) (e : distance_at a u ≡ distance_at b p) where
  scaled-tied : scaled_at a u ≡ scaled_at b p
  scaled-tied = rw (e, x.factor, x.divider, x.additive)

  scaling-tied : scaling_half a u ≡ scaling_half b p
  unfolding scaling_half scaled_by
  scaling-tied = rw (e, x.factor, x.divider)

  value-tied : value_of a ws u ≡ value_of b ws p
  unfolding value_of used_points
  value-tied = rw (scaled-tied, x.linearization, x.used)

  line-tied : line_half a ws u ≡ line_half b ws p
  unfolding line_half used_points linearized_by rounding
  line-tied = rw (scaled-tied, x.linearization, x.used)

  measurement-tied : (reported : Bool) → measurement_of a ws u reported ≡ measurement_of b ws p reported
  unfolding measurement_of measured_of
  measurement-tied reported = rw (value-tied, scaling-tied, line-tied)

-- ---- tables and bases

-- alike but for the offset, and there equal modulo R
pub record Tables (R : ℕ) (s o : List ℤ) : Type 0 where
  pub alike : Alike stored_slot s o
  pub long : length s ≡ length o
  pub held : (k : ℕ) → k < 4 → preselection s k ≡ preselection o k
  pub offsets : floor_mod (offset s) (pos R) ≡ floor_mod (offset o) (pos R)

-- the count is what it was last counted from modulo R, and without error 3 the old position modulo R
pub record Bases (R : ℕ) (b o : Basis) : Type 0 where
  pub reported : b.reported ≡ o.reported
  pub count : T b.counted → pos b.start ≡ floor_mod (pos b.last) (pos R)
  pub start : b.reported ≡ false → pos b.start ≡ floor_mod (pos o.start) (pos R)

-- under error 3 nothing of the basis matters
faulty-measured : (t : List ℤ) (b : Basis) → b.reported ≡ true → measured_at t b ≡ measured (pos 0) (Some Error.ErrorBit)
unfolding measured_at measured_of judged_of
faulty-measured t b e = rw e

faulty-halves : (t : List ℤ) (b : Basis) → b.reported ≡ true → halves_of t b ≡ no_halves
unfolding halves_of marks_of measurement_at measurement_of measured_of judged_of
faulty-halves t b e = rw e

measured-in : (t : List ℤ) (b : Basis) → (measurement_at t b).measured ≡ measured_at t b
unfolding measurement_at measurement_of measured_at
measured-in t b = refl

module _ (R : ℕ) (h : 0 < R) {s o : List ℤ} (x : Tables R s o) (loop : round_loop s ≡ R) where
  number : (n : ℕ) → stored_slot n ≡ false → nat_at s n ≡ nat_at o n
  number n e = rw (x.alike.same n e)

  points-tied : points_of s ≡ points_of o
  points-tied = points-alike x.alike x.long stored-points

  span-tied : span_of s ≡ span_of o
  span-tied = span-alike x.alike stored-span

  scalings : Scalings (scaling_of s) (scaling_of o)
  unfolding scaling_of
  scalings = record { factor = number 10 refl; divider = number 11 refl; additive = x.alike.same 12 refl; linearization = number 13 refl; used = number 55 refl }

  distances : (u p : ℕ) → pos u ≡ floor_mod (pos p) (pos R) → distance_at (scaling_of s) u ≡ distance_at (scaling_of o) p
  unfolding scaling_of
  distances u p e = rw (loop, sym (number 7 refl) ∙ loop) (distance-tied R h u p (offset s) (offset o) e x.offsets)

  measurement-at : {b c : Basis} → Bases R b c → b.reported ≡ false → measurement_at s b ≡ measurement_at o c
  unfolding measurement_at
  measurement-at {b} {c} y e =
      rw (points-tied, y.reported) (measurement-tied scalings (points_of o) b.start c.start (distances b.start c.start (y.start e)) c.reported)

  measured-tied : {b c : Basis} → Bases R b c → measured_at s b ≡ measured_at o c
  measured-tied {b} {c} y = go b.reported refl
    where
      go : (r : Bool) → b.reported ≡ r → measured_at s b ≡ measured_at o c
      go true e = faulty-measured s b e ∙ sym (faulty-measured o c (sym y.reported ∙ e))
      go false e = sym (measured-in s b) ∙ ap (λ (z : Measurement). z.measured) (measurement-at y e) ∙ measured-in o c

  reading-tied : {b c : Basis} → Bases R b c → reading_of s b ≡ reading_of o c
  unfolding reading_of
  reading-tied y = rw (measured-tied y, span-tied)

  halves-same : {b c : Basis} → Bases R b c → b.reported ≡ false → halves_of s b ≡ halves_of o c
  unfolding halves_of
  halves-same y e = rw (measurement-at y e, measured-tied y, span-tied)

  pub halves-tied : {b c : Basis} → Bases R b c → halves_of s b ≡ halves_of o c
  halves-tied {b} {c} y = go b.reported refl
    where
      go : (r : Bool) → b.reported ≡ r → halves_of s b ≡ halves_of o c
      go true e = faulty-halves s b e ∙ sym (faulty-halves o c (sym y.reported ∙ e))
      go false e = halves-same y e

-- ---- states

-- all that an answer tells is equal
pub record Tied (R : ℕ) (s o : State) : Type 0 where
  pub tables : Tables R s.table o.table
  pub basis : Bases R s.live.basis o.live.basis
  pub levels : s.live.levels ≡ o.live.levels
  pub seen : s.live.seen ≡ o.live.seen
  pub reading : s.live.reading ≡ o.live.reading
  pub shown : s.live.shown ≡ o.live.shown
  pub extremes : s.live.extremes ≡ o.live.extremes
  pub driven : s.live.driven ≡ o.live.driven
  pub switches : s.live.switches ≡ o.live.switches

pub tied : {R : ℕ} {s o : State} → Tables R s.table o.table → Bases R s.live.basis o.live.basis → s.live.levels ≡ o.live.levels →
    s.live.seen ≡ o.live.seen → s.live.reading ≡ o.live.reading → s.live.shown ≡ o.live.shown → s.live.extremes ≡ o.live.extremes →
    s.live.driven ≡ o.live.driven → s.live.switches ≡ o.live.switches → Tied R s o
tied t b l e r h x d w = record { tables = t; basis = b; levels = l; seen = e; reading = r; shown = h; extremes = x; driven = d; switches = w }

module _ {R : ℕ} {s o : List ℤ} (x : Tables R s o) where
  preselections-tied : preselections_of s ≡ preselections_of o
  preselections-tied = preselections-alike x.alike stored-preselection x.held

  pub inputs-tied : (i : ℕ) → i < 3 → input_at s i ≡ input_at o i
  inputs-tied i h = input-alike x.alike i (stored-input i h)

  frozen-tied : (l : ℕ) → frozen s l ≡ frozen o l
  unfolding frozen
  frozen-tied l = rw (inputs-tied 0 (omega arith), inputs-tied 1 (omega arith), inputs-tied 2 (omega arith))

module _ {R : ℕ} {s o : State} (x : Tied R s o) where
  shown-tied : shown_after s.table s.live.levels s.live.shown s.live.reading.result ≡ shown_after o.table o.live.levels o.live.shown o.live.reading.result
  unfolding shown_after
  shown-tied = rw (frozen-tied x.tables s.live.levels, x.levels, x.shown, x.reading)

  switches-tied :
      switches_after s.live.seen s.table s.live.reading.result s.live.switches ≡ switches_after o.live.seen o.table o.live.reading.result o.live.switches
  unfolding switches_after
  switches-tied = rw (preselections-tied x.tables, x.seen, x.reading, x.switches)

  pub recorded-tied : Tied R (recorded_of s) (recorded_of o)
  recorded-tied = tied x.tables x.basis x.levels x.seen x.reading x.shown x.extremes (rw (x.driven, x.reading)) x.switches

  settled-tied : Tied R (settled_of s) (settled_of o)
  unfolding displayed_of switched_of
  settled-tied = tied x.tables x.basis x.levels x.seen x.reading shown-tied x.extremes x.driven switches-tied

  pub answer-tied : (n n' : Option Refusal) (halves halves' : Halves) → n ≡ n' → halves ≡ halves' → Same (answer_of s n halves) (answer_of o n' halves')
  unfolding answer_of
  answer-tied n n' halves halves' e f =
      record {
        result = rw x.reading;
        shown = x.shown;
        error = rw x.reading;
        code = rw x.reading;
        drive = rw x.reading;
        switches = x.switches;
        outputs = rw (preselections-tied x.tables, x.switches);
        extremes = x.extremes;
        driven = x.driven;
        note = e;
        halves = f;
      }

-- the end of an event
pub ended-tied : {R : ℕ} {s o : State} → Tied R s o → Tied R (ended_of s) (ended_of o)
ended-tied x = recorded-tied (settled-tied x)

-- the result worked out again
pub reread-tied : {R : ℕ} → 0 < R → (s o : State) → round_loop s.table ≡ R → Tables R s.table o.table → Bases R s.live.basis o.live.basis →
    s.live.levels ≡ o.live.levels → s.live.seen ≡ o.live.seen → s.live.shown ≡ o.live.shown → s.live.extremes ≡ o.live.extremes →
    s.live.driven ≡ o.live.driven → s.live.switches ≡ o.live.switches → Tied R (reread_of s) (reread_of o)
unfolding reread_of
reread-tied {R} h s o loop tables basis levels seen shown extremes driven switches =
    let e : reading_of s.table s.live.basis ≡ reading_of o.table o.live.basis = reading-tied R h tables loop basis in
    tied tables basis levels seen e shown (rw (extremes, e)) driven switches
