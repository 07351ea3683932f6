-- `driverecord::left_alone` meets its contract: the literal is the definition's 0.
use mathlib.Core.Path.{refl}
use lib.Ieee.{of_bits}
use Rattle.driverecord.proofs.left_alone.Goals as goal

pub returns : goal.returns
unfolding of_bits
returns c = refl
