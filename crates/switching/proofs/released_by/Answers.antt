-- `switching::released_by` meets its contract: once ended it stays ended; where there is suppression, it ends as the result exceeds P.
use mathlib.Core.Path.{◌≡◌}
use borrow.Author.Rules.{rules}
use borrow.Author.Tests.{not-true, not-false}
use mir.Syntax.{w32}
use mir.Facts.{to_z-of_z}
use Rattle.integers.specs.IntLaws.{bk}
use Rattle.switching.specs.Switching.{released_of}
use Rattle.switching.proofs.released_by.Goals as goal

pub returns-then-released : goal.returns-then-released
unfolding released_of
returns-then-released c = simp c.if-released.true

pub returns-then-not-has_suppression : goal.returns-then-not-has_suppression
unfolding released_of
returns-then-not-has_suppression c = let h = c in
    rw (h.if-released.false, ← h.has_suppression.ensures, not-true h.has_suppression.result c.if-not-has_suppression.true-raw)

pub returns-else-not-has_suppression : goal.returns-else-not-has_suppression
unfolding released_of
returns-else-not-has_suppression c = let t = c in
    let h = t in
    let s = h in
    let value-is : bk w32 s.args.p.value ≡ s.args.p.value = search rules in
    rw (c.exceeding.ensures, value-is, to_z-of_z s.ranges.r, h.if-released.false, ← h.has_suppression.ensures, not-false h.has_suppression.result t.if-not-has_suppression.false-raw)
