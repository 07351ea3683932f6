-- `decimal::value` meets its contract. Each byte is a digit, and the number with it is at most the largest.
use Prim.Native.Nat.{◌+◌, ◌-◌, ◌*◌, ◌≤◌}
use mathlib.Core.Path.{sym, ◌∙◌}
use native.Mathlib.Omega.{arith}
use lib.ListN.{get_or, drop}
use Rattle.decimal.specs.Decimal.{largest}
use Rattle.decimal.specs.DigitLaws.{digit-from, value_grows}
use Rattle.decimal.specs.ByteLaws.{natural-parts, pass-range}
use Rattle.decimal.proofs.Steps.{all-at, value-drop, value-end}
use Rattle.decimal.proofs.value.Goals as goal

pub overflow_mul-v : goal.overflow_mul-v
overflow_mul-v c =
    let s = c.args.s.now in
    let l = c.loop-b in
    let v = l.v * 10 + (get_or s l.b-index 0 - 48) in
    let next : v ≤ largest = omega (arith, value_grows v (drop (l.b-index + 1) s), value-drop l.v s l.b-index c.loop-b-test.true, l.invariant, pass-range s c.requires) in
    omega arith

pub overflow_sub-v : goal.overflow_sub-v
overflow_sub-v c = digit-from _ (all-at c.args.s.now c.loop-b.b-index (natural-parts _ c.requires).all c.loop-b-test.true)

pub overflow_add-v : goal.overflow_add-v
overflow_add-v c =
    let s = c.args.s.now in
    let l = c.loop-b in
    let v = l.v * 10 + (get_or s l.b-index 0 - 48) in
    let next : v ≤ largest = omega (arith, value_grows v (drop (l.b-index + 1) s), value-drop l.v s l.b-index c.loop-b-test.true, l.invariant, pass-range s c.requires) in
    omega arith

pub loop-b-preserved : goal.loop-b-preserved
loop-b-preserved c = let l = c.loop-b in
    value-drop l.v c.args.s.now l.b-index c.loop-b-test.true ∙ l.invariant

pub returns : goal.returns
returns c = let l = c.loop-b in
    sym (value-end l.v c.args.s.now l.b-index c.loop-b-test.false) ∙ l.invariant
