-- `measurement::highest` meets its contract: the search among the points that are left finds what the search among all n does.
-- K3 in the proof: at first all n are left (`loop-i-init`), and the point looked at is the last one left (`last-looked-at`).
use mathlib.Core.List.{List}
use mathlib.Core.Bool.{true, false, cond}
use mathlib.Core.Path.{◌≡◌, refl, sym, ◌∙◌}
use Prim.Native.Nat.{ℕ, ◌-◌, ◌<◌}
use native.Mathlib.Omega.{arith}
use lib.IntN.{ℤ}
use lib.Signed.{le_z}
use mir.Syntax.{w64}
use mir.Facts.{to_z-of_z}
use Rattle.std.specs.Prelude.{Some}
use Rattle.integers.specs.IntLaws.{bk, back_at}
use Rattle.measurement.specs.Curve.{point_at, highest_of}
use Rattle.measurement.proofs.SearchLaws.{last-first}
use Rattle.measurement.proofs.highest.Goals as goal

pub loop-i-init : goal.loop-i-init
loop-i-init c = refl

-- the point looked at has the x of the last one left: it is found, or the search goes on among those before it
looked : (ws : List ℤ) (i n : ℕ) (v x : ℤ) → 0 < i → x ≡ (point_at ws (i - 1)).x → highest_of ws i v ≡ highest_of ws n v → cond (le_z x v) (Some (i - 1)) (highest_of ws (i - 1) v) ≡ highest_of ws n v
looked ws i n v x some last e = rw last (sym (last-first ws i v some) ∙ e)

pub returns-then-x_of-v : goal.returns-then-x_of-v
returns-then-x_of-v c =
    let v = c.args.v in
    let last-looked-at : bk w64 c.x_of.result ≡ (point_at c.args.points.now (c.loop-i.i - 1)).x =
    back_at w64 c.x_of.result c.x_of.type_inv ∙ c.x_of.ensures in
    let fits : le_z (bk w64 c.x_of.result) v ≡ true = rw (to_z-of_z c.ranges.v) at c.if-x_of-v.true in
    let e = looked c.args.points.now c.loop-i.i c.args.n v _ (omega arith) last-looked-at (rw (to_z-of_z c.ranges.v) at c.loop-i.invariant) in
    rw fits at e

pub loop-i-preserved : goal.loop-i-preserved
loop-i-preserved c =
    let v = c.args.v in
    let last-looked-at : bk w64 c.x_of.result ≡ (point_at c.args.points.now (c.loop-i.i - 1)).x =
    back_at w64 c.x_of.result c.x_of.type_inv ∙ c.x_of.ensures in
    let passed : le_z (bk w64 c.x_of.result) v ≡ false = rw (to_z-of_z c.ranges.v) at c.if-x_of-v.false in
    let e = looked c.args.points.now c.loop-i.i c.args.n v _ (omega arith) last-looked-at (rw (to_z-of_z c.ranges.v) at c.loop-i.invariant) in
    rw (to_z-of_z c.ranges.v) (rw passed at e)

pub returns : goal.returns
unfolding highest_of
returns c =
    let e : c.loop-i.i ≡ 0 = omega arith in
    rw (e, to_z-of_z c.ranges.v) at c.loop-i.invariant
