-- `switching::held` meets its contract: while suppressed it is off, and otherwise what the call gives.
use mathlib.Core.Path.{◌≡◌}
use borrow.Author.Rules.{rules}
use mir.Syntax.{w32}
use mir.Facts.{to_z-of_z}
use Rattle.integers.specs.IntLaws.{bk}
use Rattle.switching.specs.Switching.{held_of}
use Rattle.switching.proofs.held.Goals as goal

pub returns-then-released : goal.returns-then-released
unfolding held_of
returns-then-released c = let s = c in
    let value-is : bk w32 s.args.p.value ≡ s.args.p.value = search rules in
    rw (c.condition.ensures, value-is, to_z-of_z s.ranges.r, to_z-of_z s.ranges.partner, c.if-released.true)

pub returns-else-released : goal.returns-else-released
unfolding held_of
returns-else-released c = simp c.if-released.false
