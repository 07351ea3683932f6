-- `recorder::words_of` meets its contract. The invariant: the words stored and those of the chunks left are the words of the group.
use mathlib.Core.Path.{◌≡◌}
use mathlib.Core.List.{◌++◌}
use Prim.Native.Nat.{◌+◌, ◌*◌}
use lib.ListN.{length, take}
use Rattle.std.specs.Slice.Iter.{chunks_exact_rest, chunks_exact_size}
use Rattle.events.specs.Bytes.{words_in}
use Rattle.recorder.proofs.words_of.Given as goal

abbrev pub invariant-loop-k : goal.invariant-loop-k
invariant-loop-k l =
    (length l.words ≡ 32)
    × (chunks_exact_size l.k-iterator.iter ≡ 4)
    × (4 * l.k-iterator.count + length (chunks_exact_rest l.k-iterator.iter) ≡ 128)
    × (words_in l.group ≡ take l.k-iterator.count l.words ++ words_in (chunks_exact_rest l.k-iterator.iter))
