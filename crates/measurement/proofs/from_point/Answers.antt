-- `measurement::from_point` meets its contract: past the last point its y (`value-last`), else the line to the next point (`value-words`).
use borrow.Author.Rules.{rules}
use mathlib.Core.Path.{◌≡◌, sym, ap, ◌∙◌}
use Prim.Native.Nat.{ℕ, ◌+◌, ◌*◌, ◌≤◌, ◌<◌}
use native.Mathlib.Omega.{arith}
use lib.IntN.{ℤ, pos}
use mathlib.Core.List.{List}
use Rattle.std.specs.Prelude.{Some}
use lib.ListN.{length, get_or}
use mir.Syntax.{w32}
use mir.Val.{SFits}
use mir.Facts.{to_z-of_z}
use Rattle.integers.specs.IntLaws.{ints, back_at}
use Rattle.integers.specs.Fraction.{rounded}
use Rattle.measurement.specs.Curve.{highest_of}
use Rattle.measurement.specs.Sound.{Usable}
use Rattle.measurement.proofs.SearchLaws.{found_at, value-last, value-words, on-words}
use Rattle.measurement.proofs.from_point.Goals as goal

-- the point found is there, both its words
room : {ws : List ℤ} {n : ℕ} → Usable ws n → (v : ℤ) (i : ℕ) → highest_of ws n v ≡ Some i → 2 * i + 2 ≤ length ws
room u v i e = omega (arith, (found_at _ _ _ _ e).used, u.long)

-- where it is not the last one, so is the next
another : {ws : List ℤ} {n : ℕ} → Usable ws n → (v : ℤ) (i : ℕ) → highest_of ws n v ≡ Some i → (i + 1 ≡ n → ⊥) → i + 1 < n
another u v i e f = omega (arith, f, (found_at _ _ _ _ e).used)

both : {ws : List ℤ} {n : ℕ} → Usable ws n → (v : ℤ) (i : ℕ) → highest_of ws n v ≡ Some i → (i + 1 ≡ n → ⊥) → 2 * i + 4 ≤ length ws
both u v i e f = omega (arith, another u v i e f, u.long)

pub overflow_mul-k : goal.overflow_mul-k
overflow_mul-k c = let h = room c.requires.0 c.args.v c.args.i c.requires.1 in search rules

pub overflow_add-i : goal.overflow_add-i
overflow_add-i c = let h = room c.requires.0 c.args.v c.args.i c.requires.1 in search rules

pub overflow_add-k : goal.overflow_add-k
overflow_add-k c = let h = room c.requires.0 c.args.v c.args.i c.requires.1 in search rules

pub offset_bounds-points-k : goal.offset_bounds-points-k
offset_bounds-points-k c = let h = room c.requires.0 c.args.v c.args.i c.requires.1 in search rules

pub bounds-points-k : goal.bounds-points-k
bounds-points-k c = let h = room c.requires.0 c.args.v c.args.i c.requires.1 in search rules

pub overflow_cast-points : goal.overflow_cast-points
overflow_cast-points c = let f : SFits w32 (get_or c.args.points.now (2 * c.args.i + 1) (pos 0)) = record { sfits = c.whole-arg-1.given } in
    omega (arith, ints)

pub returns-then-i-n : goal.returns-then-i-n
returns-then-i-n c = let s = c in
    let ws = s.args.points.now in
    let e = rw (to_z-of_z (overflow_cast-points c.before), back_at w32 (get_or ws (2 * s.args.i + 1) (pos 0)) c.whole-arg-1.given) at c.whole.ensures in
    e ∙ ap rounded (sym (value-last s.requires.0 s.args.v s.args.i s.requires.1 c.if-i-n.true))

pub offset_bounds-points-k-2 : goal.offset_bounds-points-k-2
offset_bounds-points-k-2 c = let h = both c.requires.0 c.args.v c.args.i c.requires.1 c.if-i-n.false in search rules

pub bounds-points-k-2 : goal.bounds-points-k-2
bounds-points-k-2 c = omega (arith, both c.requires.0 c.args.v c.args.i c.requires.1 c.if-i-n.false)

pub overflow_add-k-2 : goal.overflow_add-k-2
overflow_add-k-2 c = let h = both c.requires.0 c.args.v c.args.i c.requires.1 c.if-i-n.false in search rules

pub offset_bounds-points-k-3 : goal.offset_bounds-points-k-3
offset_bounds-points-k-3 c = let h = both c.requires.0 c.args.v c.args.i c.requires.1 c.if-i-n.false in search rules

pub bounds-points-k-3 : goal.bounds-points-k-3
bounds-points-k-3 c = omega (arith, both c.requires.0 c.args.v c.args.i c.requires.1 c.if-i-n.false)

pub overflow_add-k-3 : goal.overflow_add-k-3
overflow_add-k-3 c = let h = both c.requires.0 c.args.v c.args.i c.requires.1 c.if-i-n.false in search rules

pub offset_bounds-points-k-4 : goal.offset_bounds-points-k-4
offset_bounds-points-k-4 c = let h = both c.requires.0 c.args.v c.args.i c.requires.1 c.if-i-n.false in search rules

pub bounds-points-k-4 : goal.bounds-points-k-4
bounds-points-k-4 c = omega (arith, both c.requires.0 c.args.v c.args.i c.requires.1 c.if-i-n.false)

pub overflow_add-k-4 : goal.overflow_add-k-4
overflow_add-k-4 c = let h = both c.requires.0 c.args.v c.args.i c.requires.1 c.if-i-n.false in search rules

pub offset_bounds-points-k-5 : goal.offset_bounds-points-k-5
offset_bounds-points-k-5 c = let h = both c.requires.0 c.args.v c.args.i c.requires.1 c.if-i-n.false in search rules

pub bounds-points-k-5 : goal.bounds-points-k-5
bounds-points-k-5 c = omega (arith, both c.requires.0 c.args.v c.args.i c.requires.1 c.if-i-n.false)

pub on_line-requires : goal.on_line-requires
on_line-requires c =
    let more = another c.requires.0 c.args.v c.args.i c.requires.1 c.if-i-n.false in
    let s = c in
    let i = s.args.i in
    let ws = s.args.points.now in
    rw (
      back_at w32 (get_or ws (2 * i) (pos 0)) c.on_line-arg-1.given,
      back_at w32 (get_or ws (2 * i + 1) (pos 0)) c.on_line-arg-2-1.given,
      back_at w32 (get_or ws (2 * i + 2) (pos 0)) c.on_line-arg-3-1.given,
      back_at w32 (get_or ws (2 * i + 3) (pos 0)) c.on_line-arg-4-1.given,
      to_z-of_z s.ranges.v,
    )
    (on-words s.requires.0 s.args.v i s.requires.1 (more))

pub returns : goal.returns
returns c =
    let more = another c.requires.0 c.args.v c.args.i c.requires.1 c.if-i-n.false in
    let b = c in
    let s = b in
    let i = s.args.i in
    let ws = s.args.points.now in
    let e = rw (
      back_at w32 (get_or ws (2 * i) (pos 0)) b.on_line-arg-1.given,
      back_at w32 (get_or ws (2 * i + 1) (pos 0)) b.on_line-arg-2-1.given,
      back_at w32 (get_or ws (2 * i + 2) (pos 0)) b.on_line-arg-3-1.given,
      back_at w32 (get_or ws (2 * i + 3) (pos 0)) b.on_line-arg-4-1.given,
      to_z-of_z s.ranges.v,
    ) at c.on_line.ensures in
    e ∙ sym (value-words s.requires.0 s.args.v i s.requires.1 (more))
