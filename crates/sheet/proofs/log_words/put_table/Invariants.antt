-- `sheet::log_words::put_table` meets its contract. The invariant: the bytes of the words before the index stand at the start of the buffer.
use mathlib.Core.Path.{◌≡◌}
use Prim.Native.Nat.{◌*◌}
use lib.ListN.{length, take}
use Rattle.text.specs.Put.{Put}
use Rattle.sheet.specs.LogWordLaws.{table_bytes_of}
use Rattle.sheet.proofs.log_words.put_table.Given as goal

abbrev pub invariant-loop-z : goal.invariant-loop-z
invariant-loop-z l = (length l.out ≡ length l.initial.out) × (l.p ≡ 4 * l.z-index) × (length l.t ≡ 104) × Put l.initial.out 0 (table_bytes_of (take l.z-index l.t)) l.p l.out
