-- `switching::switched_at` meets its contract: the call gets preselection k and its partner's P, which stands among the four.
use mathlib.Core.Path.{◌≡◌}
use native.Mathlib.Omega.{arith}
use borrow.Author.Rules.{rules}
use mir.Syntax.{w32}
use mir.Facts.{to_z-of_z}
use Rattle.integers.specs.IntLaws.{bk}
use Rattle.switching.specs.Switching.{switched_at, preselection_at}
use Rattle.switching.proofs.SwitchingLaws.{partner-below}
use Rattle.switching.proofs.switched_at.Goals as goal

pub offset_bounds-ps-partner_of : goal.offset_bounds-ps-partner_of
offset_bounds-ps-partner_of c = omega (arith, c.partner_of.ensures, partner-below c.args.k)

pub bounds-ps-partner_of : goal.bounds-ps-partner_of
bounds-ps-partner_of c = omega (arith, c.partner_of.ensures, partner-below c.args.k)

pub returns : goal.returns
unfolding switched_at
returns c = let p = c in
    let s = p in
    let other = preselection_at s.args.ps p.partner_of.result in
    let value-is : bk w32 other.value ≡ other.value = search rules in
    rw (c.switched.ensures, value-is, to_z-of_z s.ranges.r, p.partner_of.ensures)
