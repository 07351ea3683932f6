-- `integers::twos_complement::bits` meets its contract: std's cast gives a word from 0 on as it is, and another one 2 ^ 32 more.
use mathlib.Core.Path.{◌≡◌, refl, ◌∙◌}
use lib.IntN.{ℤ, pos, negsuc}
use mir.Syntax.{w32}
use mir.Val.{of_z}
use mir.Facts.{to_z-of_z}
use Rattle.integers.specs.TwosComplement.{bits_of}
use Rattle.integers.proofs.twos_complement.bits.Goals as goal

as-cast : (z : ℤ) → of_z w32 z ≡ bits_of z
unfolding bits_of
as-cast (pos n) = refl
as-cast (negsuc n) = refl

pub returns : goal.returns
returns c = rw (to_z-of_z c.ranges.z) at c.cast_unsigned.ensures ∙ as-cast c.args.z
