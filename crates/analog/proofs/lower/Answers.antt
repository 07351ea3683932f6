-- `analog::lower` meets its contract: the difference of two 32-bit numbers fits, and the smaller is taken from the larger.
use native.Mathlib.Omega.{arith}
use mir.Facts.{to_z-of_z}
use Rattle.integers.specs.IntLaws.{ints, fit}
use Rattle.analog.proofs.CodeLaws.{lower-mirrored, lower-kept}
use Rattle.analog.proofs.lower.Goals as goal

pub overflow_cast-result : goal.overflow_cast-result
overflow_cast-result c = omega (arith, ints)

pub overflow_cast-result-then-end-start : goal.overflow_cast-result-then-end-start
overflow_cast-result-then-end-start c = omega (arith, ints)

pub overflow_sub-result : goal.overflow_sub-result
overflow_sub-result c = omega (arith, ints, fit (overflow_cast-result c), fit (overflow_cast-result-then-end-start c))

pub returns-then-end-start : goal.returns-then-end-start
returns-then-end-start c = let f = c.ranges in
    let t = simp (to_z-of_z, f.end, f.start) at c.if-end-start.true in
    rw (to_z-of_z (overflow_sub-result c), to_z-of_z (overflow_cast-result c), to_z-of_z (overflow_cast-result-then-end-start c), to_z-of_z f.start, to_z-of_z f.end) (lower-mirrored c.args.start c.args.end t)

pub overflow_cast-result-2 : goal.overflow_cast-result-2
overflow_cast-result-2 c = omega (arith, ints)

pub overflow_cast-result-3 : goal.overflow_cast-result-3
overflow_cast-result-3 c = omega (arith, ints)

pub overflow_sub-result-2 : goal.overflow_sub-result-2
overflow_sub-result-2 c = omega (arith, ints, fit (overflow_cast-result-2 c), fit (overflow_cast-result-3 c))

pub returns : goal.returns
returns c = let f = c.ranges in
    let t = simp (to_z-of_z, f.end, f.start) at c.if-end-start.false in
    rw (to_z-of_z (overflow_sub-result-2 c), to_z-of_z (overflow_cast-result-2 c), to_z-of_z (overflow_cast-result-3 c), to_z-of_z f.end, to_z-of_z f.start) (lower-kept c.args.start c.args.end t)
