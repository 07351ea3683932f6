-- `bitplanes::lower` meets its contract: the definition, of a word of 32 bits.
use mathlib.Core.Path.{sym, ap₂}
use Prim.Native.Nat.{ℕ, ◌*◌, ◌^◌, ◌%◌}
use native.Mathlib.Nat.{mod-eq_of_lt}
use native.Mathlib.Omega.{arith}
use lib.Bits.{bit_xor}
use Rattle.bitplanes.specs.RoundSteps.{lower_of}
use Rattle.bitplanes.proofs.MaskLaws.{sizes}
use Rattle.bitplanes.proofs.lower.Goals as goal

pub overflow_cast-result : goal.overflow_cast-result
overflow_cast-result c = record { fits = omega (arith, (sizes c.args.w c.requires.width).small) }

pub overflow_shl-result : goal.overflow_shl-result
overflow_shl-result c = omega (arith, (sizes c.args.w c.requires.width).small)

pub returns : goal.returns
unfolding lower_of
returns c = let start = c in
    ap₂ (λ (x t : ℕ). bit_xor x (t * 2 ^ start.args.w % 2 ^ 32)) (sym (mod-eq_of_lt start.ranges.x.fits)) c.crossed.ensures
