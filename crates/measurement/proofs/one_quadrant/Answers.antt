-- `measurement::one_quadrant` meets its contract: below 0 the value is minus that of -v (`one-negative`), else that of v.
use borrow.Author.Rules.{rules}
use mathlib.Core.Path.{◌≡◌, sym, ◌∙◌}
use native.Mathlib.Omega.{arith}
use lib.IntN.{pos, ◌-ℤ◌}
use mir.Syntax.{w64}
use mir.Facts.{to_z-of_z}
use Rattle.integers.specs.IntLaws.{bk, ints, fit}
use Rattle.integers.specs.Round.{rounding}
use Rattle.measurement.proofs.SearchLaws.{four-within, one-negative, one-positive}
use Rattle.measurement.proofs.one_quadrant.Goals as goal

pub overflow_sub-v : goal.overflow_sub-v
overflow_sub-v c = omega (arith, ints, fit c.ranges.v, c.requires.1.above, c.requires.1.below)

pub four_quadrants-mirrored-requires : goal.four_quadrants-mirrored-requires
four_quadrants-mirrored-requires c = c.requires.0

pub overflow_sub-value : goal.overflow_sub-value
unfolding rounding
overflow_sub-value c = let s = c in
    let f = c.four_quadrants-mirrored in
    let w = four-within s.requires.0 (bk w64 (pos 0 -ℤ bk w64 s.args.v)) in
    let v : bk w64 f.result.value ≡ f.result.value = search rules in
    rw (v, f.ensures) (omega (arith, ints, w.above, w.below))

pub returns-then-v-lt0 : goal.returns-then-v-lt0
returns-then-v-lt0 c = let s = c in
    let f = c.four_quadrants-mirrored in
    let t = rw (to_z-of_z s.ranges.v) at c.if-v-lt0.true in
    let e = rw (to_z-of_z (overflow_sub-v c.before.before.before), to_z-of_z s.ranges.v) at f.ensures in
    let v : bk w64 f.result.value ≡ f.result.value = search rules in
    rw (to_z-of_z (overflow_sub-value c), v, e) (sym (one-negative _ s.args.v t))

pub four_quadrants-requires : goal.four_quadrants-requires
four_quadrants-requires c = c.requires.0

pub returns : goal.returns
returns c = let s = c in
    let f = c.four_quadrants in
    let t = rw (to_z-of_z s.ranges.v) at c.if-v-lt0.false in
    (rw (to_z-of_z s.ranges.v) at f.ensures) ∙ sym (one-positive _ s.args.v t)
