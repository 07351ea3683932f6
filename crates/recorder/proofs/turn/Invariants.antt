-- `recorder::turn` meets its contract. The loop's invariant: the copy with its groups turned is the output up to group k and what is left of the groups.
use mathlib.Core.Path.{◌≡◌}
use mathlib.Core.List.{◌++◌}
use Prim.Native.Nat.{◌-◌, ◌*◌, ◌/◌}
use lib.ListN.{length, take, drop}
use Rattle.bitplanes.specs.Turned.{in_groups}
use Rattle.recorder.specs.Recorded.{turned_bytes}
use Rattle.recorder.proofs.turn.Given as goal

abbrev pub invariant-loop-k : goal.invariant-loop-k
invariant-loop-k l =
    (length l.output ≡ length l.initial.output) × (in_groups 128 turned_bytes (l.n / 128) l.initial.output ≡ take (l.k * 128) l.output ++ in_groups 128 turned_bytes (l.n / 128 - l.k) (drop (l.k * 128) l.output))
