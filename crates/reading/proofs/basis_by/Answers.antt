-- `reading::basis_by` meets its contract: the position after direction without a round loop, else held under error 3, else followed.
use borrow.Author.Tests.{eq-eqb, ne_eqb}
use mathlib.Core.Path.{◌≡◌}
use mathlib.Core.Bool.{true, false}
use native.Mathlib.Omega.{arith}
use Rattle.reading.specs.Follow.{followed_of}
use Rattle.reading.proofs.basis_by.Goals as goal

pub directed-start-requires : goal.directed-start-requires
directed-start-requires c = let s = c.requires.0 in
    rw c.width-width.ensures (omega (arith, s.from_one, s.low-high, s.high-resolution, s.to-32), c.requires.1)

pub returns-then-r-eq0 : goal.returns-then-r-eq0
returns-then-r-eq0 c = let d = c in
    rw (eq-eqb _ 0 c.if-r-eq0.true, d.directed-start.ensures, d.width-width.ensures)

pub returns-then-reported : goal.returns-then-reported
returns-then-reported c = let test = c in
    let s = test in
    let e : s.args.reported ≡ true = test.if-reported.true in
    rw (ne_eqb _ 0 test.if-r-eq0.false, e, c.held.ensures)

pub returns : goal.returns
unfolding followed_of
returns c = let test = c in
    let d = test in
    let s = d in
    let e : s.args.reported ≡ false = test.if-reported.false in
    rw (ne_eqb _ 0 test.if-r-eq0.false, e, c.count_after.ensures, d.directed-start.ensures, d.width-width.ensures)
