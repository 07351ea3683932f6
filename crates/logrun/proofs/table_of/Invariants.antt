-- `logrun::table_of` meets its contract. The invariant: the words stored and those of the chunks left are the table.
use mathlib.Core.Path.{◌≡◌}
use mathlib.Core.List.{◌++◌, map}
use Prim.Native.Nat.{◌+◌, ◌*◌}
use lib.ListN.{length, take}
use Rattle.std.specs.Slice.Iter.{chunks_exact_rest, chunks_exact_size}
use Rattle.events.specs.Bytes.{words_in}
use Rattle.integers.specs.TwosComplement.{signed_of}
use Rattle.logrun.specs.Input.{table_bytes}
use Rattle.logrun.proofs.table_of.Given as goal

abbrev pub invariant-loop-k : goal.invariant-loop-k
invariant-loop-k l =
    (length l.t ≡ 104)
    × (chunks_exact_size l.k-iterator.iter ≡ 4)
    × (4 * l.k-iterator.count + length (chunks_exact_rest l.k-iterator.iter) ≡ 416)
    × (map signed_of (words_in (take table_bytes l.bytes)) ≡ take l.k-iterator.count l.t ++ map signed_of (words_in (chunks_exact_rest l.k-iterator.iter)))
