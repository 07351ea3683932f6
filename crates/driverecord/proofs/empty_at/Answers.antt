-- `driverecord::empty_at` meets its contract: the literal is the definition's 0.
use mathlib.Core.Path.{refl}
use lib.Ieee.{of_bits}
use Rattle.driverecord.proofs.empty_at.Goals as goal

pub returns : goal.returns
unfolding of_bits
returns c = refl
