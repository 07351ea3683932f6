-- `text::hex::value` meets its contract. The invariant: v, followed by the digits from the index on, is what all digits stand for.
use mathlib.Core.Path.{◌≡◌}
use lib.ListN.{drop}
use Rattle.text.specs.Hex.{hex_from, hex_of}
use Rattle.text.proofs.hex.value.Given as goal

abbrev pub invariant-loop-b : goal.invariant-loop-b
invariant-loop-b l = hex_from l.v (drop l.b-index l.s) ≡ hex_of l.s
