-- `decimal::places` meets its contract. The invariant: top is 10 ^ k, and n has at least k digits. The measure is what is left of the digits.
use Prim.Native.Nat.{◌^◌, ◌-◌, ◌≤◌}
use mathlib.Core.Path.{◌≡◌}
use lib.ListN.{length}
use Rattle.decimal.specs.Decimal.{digits_of}
use Rattle.decimal.proofs.places.Given as goal

abbrev pub invariant-loop-top : goal.invariant-loop-top
invariant-loop-top l = (l.top ≡ 10 ^ l.k) × (1 ≤ l.k) × (l.k ≤ length (digits_of l.n))

abbrev pub decreases-loop-top : goal.decreases-loop-top
decreases-loop-top l = length (digits_of l.n) - l.k
