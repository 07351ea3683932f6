-- `text::hex::put_eight` meets its contract: the eight bytes are the digits. The digit k places before the last is the last one of the number divided by 16 k times, or once by 16^k.
use native.Mathlib.Nat.{div-div-eq-div-mul}
use Rattle.text.specs.Hex.{hex_in}
use Rattle.text.proofs.hex.put_eight.Goals as goal

pub returns : goal.returns
unfolding hex_in
returns c = let d8 = c in
    let d7 = d8 in
    let d6 = d7 in
    let d5 = d6 in
    let d4 = d5 in
    let d3 = d4 in
    let d2 = d3 in
    simp div-div-eq-div-mul
    (rw (d2.last.ensures, d2.last-2.ensures, d3.last-3.ensures, d4.last-4.ensures, d5.last-5.ensures, d6.last-6.ensures, d7.last-7.ensures, d8.last-8.ensures) at c.put_bytes.ensures)
