-- `decimal::spell` meets its contract. The invariant: i digits, those of the rest, are left to write, and before what stands from i on they give what is to be written.
use Prim.Native.Nat.{◌≤◌}
use mathlib.Core.Path.{◌≡◌}
use mathlib.Core.List.{◌++◌}
use lib.ListN.{length, drop}
use Rattle.decimal.specs.Decimal.{largest, digits_of}
use Rattle.decimal.proofs.spell.Given as goal

abbrev pub invariant-loop-rest : goal.invariant-loop-rest
invariant-loop-rest l = (length l.out ≡ length l.initial.out) × (l.i ≡ length (digits_of l.rest)) × (l.i ≤ l.k) × (l.rest ≤ largest) × (digits_of l.rest ++ drop l.i l.out ≡ digits_of l.n ++ drop l.k l.initial.out)

abbrev pub decreases-loop-rest : goal.decreases-loop-rest
decreases-loop-rest l = l.rest
