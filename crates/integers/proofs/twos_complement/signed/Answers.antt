-- `integers::twos_complement::signed` meets its contract: std's cast gives a word below 2 ^ 31 as it is, and from there on 2 ^ 32 less.
use mathlib.Core.Path.{◌≡◌, ◌∙◌}
use Prim.Native.Nat.{ℕ, ◌<◌, ◌^◌}
use native.Mathlib.Omega.{arith}
use mir.Syntax.{w32}
use mir.Val.{to_z}
use mir.Facts.{to_z-of_z}
use Rattle.std.proofs.lemmas.Int.{ints}
use Rattle.integers.specs.TwosComplement.{signed_of}
use Rattle.integers.proofs.twos_complement.signed.Goals as goal

as-cast : (w : ℕ) → w < 2 ^ 32 → to_z w32 w ≡ signed_of w
unfolding signed_of
as-cast w h = grind (arith, ints)

pub returns : goal.returns
returns c = to_z-of_z {w = w32} (record { sfits = c.cast_signed.type_inv }) ∙ c.cast_signed.ensures ∙ as-cast c.args.w c.ranges.w.fits
