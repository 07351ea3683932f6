-- `reading::held` meets its contract: the rest of the basis stays.
use Rattle.reading.specs.Follow.{held_of}
use mathlib.Core.Path.{refl}
use Rattle.reading.proofs.held.Goals as goal

pub returns : goal.returns
unfolding held_of
returns c = refl
