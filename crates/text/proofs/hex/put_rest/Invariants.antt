-- `text::hex::put_rest` meets its contract. The invariant: the text of the bytes before the index stands in the buffer from `at` on.
use Prim.Native.Nat.{◌+◌, ◌*◌}
use mathlib.Core.Path.{◌≡◌}
use lib.ListN.{length, take}
use Rattle.text.specs.Hex.{spaced_pairs}
use Rattle.text.specs.Put.{Put}
use Rattle.text.proofs.hex.put_rest.Given as goal

abbrev pub invariant-loop-b : goal.invariant-loop-b
invariant-loop-b l = (length l.out ≡ length l.initial.out) × (l.p ≡ l.at + 3 * l.b-index) × Put l.initial.out l.at (spaced_pairs (take l.b-index l.bytes)) l.p l.out
