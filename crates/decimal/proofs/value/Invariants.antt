-- `decimal::value` meets its contract. The invariant: v, followed by the bytes from the index on, is what all bytes stand for.
use mathlib.Core.Path.{◌≡◌}
use lib.ListN.{drop}
use Rattle.decimal.specs.Decimal.{value_from}
use Rattle.decimal.proofs.value.Given as goal

abbrev pub invariant-loop-b : goal.invariant-loop-b
invariant-loop-b l = value_from l.v (drop l.b-index l.s) ≡ value_from 0 l.s
