-- `bitplanes::upper` meets its contract: the definition, of a word of 32 bits.
use mathlib.Core.Path.{sym, ap₂}
use native.Mathlib.Nat.{mod-eq_of_lt}
use lib.Bits.{bit_xor}
use Rattle.bitplanes.specs.RoundSteps.{upper_of}
use Rattle.bitplanes.proofs.upper.Goals as goal

pub returns : goal.returns
unfolding upper_of
returns c = ap₂ bit_xor (sym (mod-eq_of_lt c.ranges.y.fits)) c.crossed.ensures
