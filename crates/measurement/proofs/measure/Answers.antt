-- `measurement::measure` meets its contract: each step's answer is the next step's argument, and its size is what that step asks.
use borrow.Author.Rules.{rules}
use mathlib.Core.Path.{◌≡◌, ap, ◌∙◌}
use mathlib.Core.Bool.{Bool}
use mathlib.Core.List.{List}
use Prim.Native.Nat.{ℕ}
use lib.IntN.{ℤ}
use native.Mathlib.Omega.{arith}
use mir.Syntax.{w32, w64}
use Rattle.integers.specs.IntLaws.{bk, back_at}
use Rattle.integers.specs.declared.Rounded.{Rounded}
use Rattle.integers.specs.Round.{rounding}
use Rattle.measurement.specs.declared.Measured.{Measured}
use Rattle.measurement.specs.declared.Measurement.{Measurement}
use Rattle.measurement.specs.declared.Scaling.{Scaling}
use Rattle.measurement.specs.Curve.{linearized_of, linearized_by}
use Rattle.measurement.specs.Measure.{distance_of, distance_at, scaled_by, scaled_at, used_points, value_of, measured_of, scaling_half, line_half, measurement_of}
use Rattle.measurement.proofs.MeasureLaws.{distance-within, scaled-within}
use Rattle.measurement.proofs.measure.Goals as goal

pub scaled-v-requires : goal.scaled-v-requires
scaled-v-requires c =
    let d-is : let s = c.args in bk w64 c.distance-d.result ≡ distance_of s.p s.s.offset s.s.round_loop =
    let s = c.args.s in
    let e : bk w32 s.offset ≡ s.offset = search rules in
    back_at w64 c.distance-d.result c.distance-d.type_inv ∙ (rw e at c.distance-d.ensures) in
    let a = c in
    let p = a.requires in
    (rw (d-is) (distance-within a.args.p a.args.s.offset a.args.s.round_loop (omega arith) p.offset p.round-loop), p.factor)

pub linearized-w-requires : goal.linearized-w-requires
unfolding scaled_by
linearized-w-requires c =
    let d-is : let s = c.args in bk w64 c.distance-d.result ≡ distance_of s.p s.s.offset s.s.round_loop =
    let s = c.args.s in
    let e : bk w32 s.offset ≡ s.offset = search rules in
    back_at w64 c.distance-d.result c.distance-d.type_inv ∙ (rw e at c.distance-d.ensures) in
    let v-is : let a = c.args in
    c.scaled-v.result ≡ scaled_by (distance_at a.s a.p) a.s.factor a.s.divider a.s.additive =
    let s = c.args.s in
    let e : bk w32 s.additive ≡ s.additive = search rules in
    rw (d-is, e) at c.scaled-v.ensures in
    let v-kept : let a = c.args in bk w64 c.scaled-v.result.value ≡ scaled_at a.s a.p =
    let v : bk w64 c.scaled-v.result.value ≡ c.scaled-v.result.value = search rules in
    rw (v, v-is) in
    let a = c in
    let p = a.requires in (
      p.curve,
      rw (v-kept)
          (scaled-within _ a.args.s.factor a.args.s.divider a.args.s.additive
          (distance-within a.args.p a.args.s.offset a.args.s.round_loop (omega arith) p.offset p.round-loop) p.factor p.additive),
    )

-- a reading and two marks that are right are the measurement
pub together : (s : Scaling) (ws : List ℤ) (p : ℕ) (b : Bool) (m : Measured) (x y : Bool) → m ≡ measured_of s ws p b → x ≡ scaling_half s p → y ≡ line_half s ws p →
    ◌≡◌ {A = Measurement} (record { measured = m; scaling = x; linearization = y }) (measurement_of s ws p b)
unfolding measurement_of
together s ws p b m x y e f g = rw (e, f, g)

pub returns : goal.returns
unfolding measured_of value_of used_points scaling_half line_half linearized_by linearized_of rounding scaled_by
returns c =
    let d-is : let s = c.args in bk w64 c.distance-d.result ≡ distance_of s.p s.s.offset s.s.round_loop =
    let s = c.args.s in
    let e : bk w32 s.offset ≡ s.offset = search rules in
    back_at w64 c.distance-d.result c.distance-d.type_inv ∙ (rw e at c.distance-d.ensures) in
    let v-is : let a = c.args in
    c.scaled-v.result ≡ scaled_by (distance_at a.s a.p) a.s.factor a.s.divider a.s.additive =
    let s = c.args.s in
    let e : bk w32 s.additive ≡ s.additive = search rules in
    rw (d-is, e) at c.scaled-v.ensures in
    let v-kept : let a = c.args in bk w64 c.scaled-v.result.value ≡ scaled_at a.s a.p =
    let v : bk w64 c.scaled-v.result.value ≡ c.scaled-v.result.value = search rules in
    rw (v, v-is) in
    let l = c.linearized-w in
    let n = c in
    let w : bk w64 l.result.value ≡ l.result.value = search rules in
    together _ _ _ _ _ _ _ (rw (c.judged-measured.ensures, w, l.ensures, v-kept)) (ap (λ (r : Rounded). r.half) (v-is))
    (ap (λ (r : Rounded). r.half) (rw (v-kept) at l.ensures))
