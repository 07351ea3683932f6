-- What the machine asks of a cast to a 32-bit float: a whole number up to 2 ^ 24 in size, which an analog code is. Assumes nothing.
use mathlib.Core.Path.{sym, subst}
use Prim.Native.Nat.{ℕ, ◌^◌, ◌≤◌}
use native.Mathlib.Omega.{arith}
use lib.IntN.{ℤ, pos, negsuc, nat_abs}
use lib.Dec.{T, le→leb, lt→ltb}
use lib.Ieee.{binary32, in_float}
use mir.Syntax.{Width}
use mir.Val.{SFits, to_z, of_z}
use mir.Facts.{to_z-of_z}
use Rattle.integers.specs.IntLaws.{abs_is, excl}
use Rattle.analog.specs.AnalogCode.{CodeFits}
use Rattle.analog.proofs.CodeLaws.{fits-small}

in-float : (z : ℤ) → nat_abs z ≤ 2 ^ 24 → T (in_float binary32 z)
unfolding in_float
in-float (pos n) h = le→leb n (2 ^ 24) h
in-float (negsuc n) h = lt→ltb n (2 ^ 24) h

pub cast-asked : {w : Width} {z : ℤ} (format : ℕ) → SFits w z → CodeFits format z → T (in_float binary32 (to_z w (of_z w z)))
cast-asked {w} {z} format s h =
    subst (λ (x : ℤ). T (in_float binary32 x)) (sym (to_z-of_z s)) (in-float z (omega (arith, fits-small format z h, abs_is z, excl z)))
