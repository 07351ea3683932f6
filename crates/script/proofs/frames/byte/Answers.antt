-- `script::frames::byte` meets its contract: two digits are a number below 256.
use native.Mathlib.Omega.{arith}
use Rattle.text.proofs.HexLaws.{hex-parts, hex-is, hex-fits}
use Rattle.script.proofs.frames.byte.Goals as goal

pub value-requires : goal.value-requires
value-requires c = let h = hex-parts 2 2 _ c.requires in
    hex-is 1 8 _ (record { some = omega (arith, h.some); few = omega (arith, h.few); all = h.all })

pub overflow_cast-result : goal.overflow_cast-result
overflow_cast-result c = let h = hex-parts 2 2 _ c.requires in
    omega (arith, hex-fits 2 _ h.few h.all, c.value.ensures)
