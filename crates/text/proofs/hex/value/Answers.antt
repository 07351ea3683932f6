-- `text::hex::value` meets its contract. The number with one digit more is below 2 ^ 32.
use Prim.Native.Nat.{◌+◌, ◌*◌, ◌<◌, ◌^◌}
use mathlib.Core.Path.{sym, ◌∙◌}
use native.Mathlib.Omega.{arith}
use lib.ListN.{get_or, drop}
use Rattle.std.specs.Option.{unwrap_or}
use Rattle.text.specs.Hex.{hex_digit}
use Rattle.text.proofs.HexLaws.{hex-grows, hex-fits, hex-parts}
use Rattle.text.proofs.Steps.{hex-drop, hex-last}
use Rattle.text.proofs.hex.value.Goals as goal

pub overflow_mul-v : goal.overflow_mul-v
overflow_mul-v c =
    let s = c.args.s.now in
    let l = c.loop-b in
    let h = hex-parts 1 8 s c.requires in
    let v = l.v * 16 + unwrap_or (hex_digit (get_or s l.b-index 0)) 16 in
    let next : v < 2 ^ 32 = omega (arith, hex-grows v (drop (l.b-index + 1) s), hex-drop l.v s l.b-index c.loop-b-test.true, l.invariant, hex-fits 8 s h.few h.all) in
    omega arith

pub overflow_add-v : goal.overflow_add-v
overflow_add-v c =
    let s = c.args.s.now in
    let l = c.loop-b in
    let h = hex-parts 1 8 s c.requires in
    let v = l.v * 16 + unwrap_or (hex_digit (get_or s l.b-index 0)) 16 in
    let next : v < 2 ^ 32 = omega (arith, hex-grows v (drop (l.b-index + 1) s), hex-drop l.v s l.b-index c.loop-b-test.true, l.invariant, hex-fits 8 s h.few h.all) in
    rw (c.from.ensures, c.unwrap_or.ensures, c.digit.ensures) (omega arith)

pub loop-b-preserved : goal.loop-b-preserved
loop-b-preserved c = let l = c.loop-b in
    rw (c.from.ensures, c.unwrap_or.ensures, c.digit.ensures) (hex-drop l.v c.args.s.now l.b-index c.loop-b-test.true ∙ l.invariant)

pub returns : goal.returns
returns c = let l = c.loop-b in
    sym (hex-last l.v c.args.s.now l.b-index c.loop-b-test.false) ∙ l.invariant
