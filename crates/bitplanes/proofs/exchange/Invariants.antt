-- `bitplanes::exchange` meets its contract: the loop's invariant: the words of the first p pairs are exchanged, the others are as they were.
use mathlib.Core.Path.{◌≡◌}
use lib.ListN.{length}
use Rattle.bitplanes.proofs.LoopLaws.{Part}
use Rattle.bitplanes.proofs.exchange.Given as goal

abbrev pub invariant-loop-p : goal.invariant-loop-p
invariant-loop-p l = (length l.g ≡ 32) × Part l.w l.initial.g l.g l.p
