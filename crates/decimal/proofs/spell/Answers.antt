-- `decimal::spell` meets its contract. The invariant: i digits, those of the rest, are left to write, and before what stands from i on they give what is to be written.
-- The measure is the rest.
use Prim.Native.Nat.{◌-◌}
use mathlib.Core.Path.{refl, ◌∙◌}
use native.Mathlib.Omega.{arith}
use lib.ListN.{length-set}
use Rattle.decimal.specs.DigitLaws.{shorter, digits-some, rest-small}
use Rattle.decimal.proofs.Steps.{digits-count, spell-more, spell_last}
use Rattle.decimal.proofs.spell.Goals as goal

pub loop-rest-init : goal.loop-rest-init
loop-rest-init c = (refl, c.requires.1, omega arith, c.requires.0, refl)

pub overflow_sub-i : goal.overflow_sub-i
overflow_sub-i c = omega (arith, digits-some c.loop-rest.rest)

pub overflow_cast-out : goal.overflow_cast-out
overflow_cast-out c = omega (arith, rest-small c.loop-rest.rest)

pub overflow_add-out : goal.overflow_add-out
overflow_add-out c = omega (arith, rest-small c.loop-rest.rest)

pub bounds-out-i : goal.bounds-out-i
bounds-out-i c = omega (arith, digits-some c.loop-rest.rest)

pub loop-rest-smaller : goal.loop-rest-smaller
loop-rest-smaller c = shorter c.loop-rest.rest c.loop-rest-test.true

pub loop-rest-preserved : goal.loop-rest-preserved
loop-rest-preserved c = let l = c.loop-rest in
    let h = c.loop-rest-test.true in
    let b = l.invariant.3 in
    let m = digits-count l.rest h b in (
      length-set l.out (l.i - 1) _ ∙ l.invariant.0,
      omega arith,
      omega arith,
      omega (arith, shorter l.rest h),
      spell-more l.out l.rest l.i h b l.invariant.1 (omega arith) ∙ l.invariant.4,
    )

pub overflow_cast-out-2 : goal.overflow_cast-out-2
overflow_cast-out-2 c = omega arith

pub overflow_add-out-2 : goal.overflow_add-out-2
overflow_add-out-2 c = omega arith

pub bounds-out-0 : goal.bounds-out-0
bounds-out-0 c = omega (arith, digits-some c.loop-rest.rest)

pub shape_of-out : goal.shape_of-out
shape_of-out c = length-set c.loop-rest.out 0 _ ∙ c.loop-rest.invariant.0

pub returns : goal.returns
returns c = let l = c.loop-rest in
    spell_last l.out l.rest l.i c.loop-rest-test.false l.invariant.1 (omega arith) ∙ l.invariant.4
