-- The law of marks, proved: a reading without error and without the two marks is the other firmware's, by the law of halves of one rounding, twice; and so its code.
-- Request K7. Assumes nothing.
use Rattle.std.specs.Prelude.{None, ◌≡◌, refl, Bool, true, false, List, ℕ, zero, suc, eqb, ℤ, pos, ◌+ℤ◌, ◌*ℤ◌}
use Rattle.std.proofs.Common.{sym, ap, ◌∙◌, mod-eq_of_lt, arith, ne_eqb}
use Rattle.std.proofs.Math.IntN.{+ℤ_invr, zero-*ℤ}
use Rattle.analog.specs.AnalogCode.{fraction, full_scale, lowest, held, on_scale, code_of, code_half, coded_of}
use Rattle.integers.specs.ChoiceLaws.{by-test, is_true}
use Rattle.integers.specs.Fraction.{whole}
use Rattle.integers.specs.Round.{rounding, floor_mod}
use Rattle.integers.proofs.HalfLaws.{multiple-no-half}
use Rattle.integers.proofs.UpwardLaws.{up_same}
use Rattle.measurement.specs.declared.Measurement.{Measurement}
use Rattle.measurement.specs.declared.Scaling.{Scaling}
use Rattle.measurement.specs.Curve.{curve, linearized_of, linearized_by}
use Rattle.measurement.specs.Measure.{error_number, measured, distance_of, distance_at, scaled_of, scaled_by, scaled_at, judged_of, used_points, value_of, measured_of, scaling_half, line_half, measurement_of}
use Rattle.inputs.specs.Commands.{reset_of}
use Rattle.parameters.specs.Slots.{with_offset}
use Rattle.parameters.proofs.StoreLaws.{offset-stored}
use Rattle.panel.specs.Step.{answer_of, on_telegram, step_of, switched_of, displayed_of}
use Rattle.reading.specs.declared.Basis.{Basis}
use Rattle.reading.specs.declared.Halves.{Halves}
use Rattle.reading.specs.Follow.{basis_after}
use Rattle.reading.specs.Reading.{accepts_of, measured_at, measurement_at, code_at, coded_at, reading_of, halves, halves_number, in_scaling, in_linearization, in_analog, marks_of, halves_of}
use Rattle.settings.specs.declared.Span.{Span}
use Rattle.settings.specs.Settings.{scaling_of, points_of, span_of}
use Rattle.state.specs.declared.State.{State}
use Rattle.state.specs.State.{halves_in, reread_of, received_of}
use Rattle.state.specs.Valid.{Good}
use Rattle.halves.specs.Upward.{scaled_up, linearized_up, value_up, measured_up, code_up}
use Rattle.halves.specs.Halves.{HalvesTold}

-- ---- each rounding

scaled-same : (s : Scaling) (p : ℕ) → scaling_half s p ≡ false → scaled_up (distance_at s p) s.factor s.divider s.additive ≡ scaled_at s p
unfolding scaled_up scaled_of scaling_half scaled_by
scaled-same s p e = ap (λ (z : ℤ). z +ℤ s.additive) (up_same (distance_at s p *ℤ pos s.factor) (pos s.divider) e)

value_same : (s : Scaling) (ws : List ℤ) (p : ℕ) → scaling_half s p ≡ false → line_half s ws p ≡ false → value_up s ws p ≡ value_of s ws p
unfolding value_up value_of linearized_up linearized_of line_half linearized_by rounding
value_same s ws p e f =
    let q = curve s.linearization (used_points s ws) (whole (scaled_at s p)) in
    ap (λ (v : ℤ). linearized_up s.linearization (used_points s ws) v) (scaled-same s p e) ∙ up_same q.num (pos q.den) f

code_same : (a : Span) (r : ℤ) → code_half a.format a.start a.end r ≡ false → code_up a r ≡ code_of a.format a.start a.end r
unfolding code_up code_of code_half
code_same a r e =
    let q = on_scale a.format (fraction a.start a.end r) in
    ap (held (lowest a.format) (pos (full_scale a.format))) (up_same q.num (pos q.den) e)

-- ---- a reading: without error its marks are those of the roundings

-- each mark is found again in the number
read_back_lem : (s l a : Bool) → (in_scaling (halves_number (halves s l a)) ≡ s) × ((in_linearization (halves_number (halves s l a)) ≡ l) ×
    (in_analog (halves_number (halves s l a)) ≡ a))
read_back_lem true true true = (refl, (refl, refl))
read_back_lem true true false = (refl, (refl, refl))
read_back_lem true false true = (refl, (refl, refl))
read_back_lem true false false = (refl, (refl, refl))
read_back_lem false true true = (refl, (refl, refl))
read_back_lem false true false = (refl, (refl, refl))
read_back_lem false false true = (refl, (refl, refl))
read_back_lem false false false = (refl, (refl, refl))

marks-are : (t : List ℤ) (b : Basis) → (measured_at t b).error ≡ None →
    (in_scaling (halves_of t b).number ≡ scaling_half (scaling_of t) b.start) × ((in_linearization (halves_of t b).number ≡ line_half (scaling_of t) (points_of t) b.start) ×
    (in_analog (halves_of t b).number ≡ code_half (span_of t).format (span_of t).start (span_of t).end (measured_at t b).result))
unfolding halves_of marks_of measurement_at measurement_of measured_at coded_at coded_of
marks-are t b e = rw e (read_back_lem (scaling_half (scaling_of t) b.start) (line_half (scaling_of t) (points_of t) b.start) _)

measured-same : (t : List ℤ) (b : Basis) → (measured_at t b).error ≡ None → in_scaling (halves_of t b).number ≡ false → in_linearization (halves_of t b).number ≡ false →
    measured_up t b ≡ measured_at t b
unfolding measured_up measured_at measured_of
measured-same t b e x y =
    let m = marks-are t b e in
    ap (judged_of b.reported) (value_same (scaling_of t) (points_of t) b.start (sym m.0 ∙ x) (sym m.1.0 ∙ y))

-- ---- the answer to a telegram

-- NO MARK, THEN IT WAS NOT THE ROUNDING
pub told : HalvesTold
unfolding step_of on_telegram answer_of switched_of displayed_of received_of reread_of reading_of code_at
told s w t =
    rw (is_true (accepts_of s.table w) t)
    (record {
      result = λ e x y. measured-same s.table b e x y ∙ ap (measured (measured_at s.table b).result) e;
      code = λ e x. code_same (span_of s.table) (measured_at s.table b).result (sym (marks-are s.table b e).1.1 ∙ x);
    })
  where
    b : Basis
    b = basis_after s.table s.live.basis w

-- ---- a reset carried out: d is 0, so scaling has no mark

zero-distance : (p R : ℕ) → distance_of p (pos p) R ≡ pos 0
unfolding distance_of floor_mod
zero-distance p zero = +ℤ_invr (pos p)
zero-distance p (suc R) = rw (+ℤ_invr (pos p), ne_eqb (suc R) 0 (λ e. omega arith)) (ap pos (mod-eq_of_lt (omega arith)))

unscaled : (s : Scaling) (p : ℕ) → s.offset ≡ pos p → scaling_half s p ≡ false
unfolding scaling_half scaled_by
unscaled s p e =
    rw (e, zero-distance p s.round_loop, zero-*ℤ (pos s.factor), ← zero-*ℤ (pos s.divider)) (multiple-no-half (pos 0) (pos s.divider))

marks-unscaled : (x : Measurement) (analog : Bool) → x.scaling ≡ false → in_scaling (marks_of x analog).number ≡ false
unfolding marks_of
marks-unscaled x analog e =
    by-test (eqb (error_number x.measured.error) 0) _ _ (λ (h : Halves). in_scaling h.number ≡ false) (λ _. (read_back_lem x.scaling x.linearization analog).0 ∙ e) (λ _. refl)

pub reset-unscaled : (s : State) → Good s → in_scaling (halves_in (reset_of s)).number ≡ false
unfolding reset_of reread_of halves_of measurement_at measurement_of scaling_of
reset-unscaled s g =
    let p = s.live.basis.start in
    let t = with_offset s.table (pos p) in
    marks-unscaled (measurement_at t s.live.basis) _ (unscaled (scaling_of t) p (offset-stored (pos p) g.table))
