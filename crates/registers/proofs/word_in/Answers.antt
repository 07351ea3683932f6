-- `registers::word_in` meets its contract: the shown value, the word of a slot, or 0 behind the last slot.
use borrow.Author.Rules.{rules}
use borrow.Author.Tests.{eq-eqb, ne_eqb}
use mathlib.Core.Path.{◌≡◌, sym}
use native.Mathlib.Omega.{arith}
use lib.IntN.{pos}
use mir.Syntax.{w32}
use mir.Facts.{to_z-of_z}
use lib.ListN.{get_or-eq_default}
use Rattle.integers.specs.IntLaws.{bk}
use Rattle.registers.specs.Serve.{word_in}
use Rattle.registers.proofs.word_in.Goals as goal

pub returns-then-register-eq-SHOWN_REGISTER : goal.returns-then-register-eq-SHOWN_REGISTER
unfolding word_in
returns-then-register-eq-SHOWN_REGISTER c = rw (to_z-of_z c.ranges.shown, eq-eqb _ _ c.if-register-eq-SHOWN_REGISTER.true)

pub returns-then-slot-lt104 : goal.returns-then-slot-lt104
unfolding word_in
returns-then-slot-lt104 c = let z : bk w32 c.word.result ≡ c.word.result = search rules in
    rw (z, ne_eqb _ _ c.if-register-eq-SHOWN_REGISTER.false) (rw c.from-slot.ensures at c.word.ensures)

pub returns : goal.returns
unfolding word_in
returns c = let start = c in
    rw (ne_eqb _ _ c.if-register-eq-SHOWN_REGISTER.false) (sym (get_or-eq_default start.args.t.now (pos 0) (omega (arith, start.requires.long, c.from-slot.ensures))))
