-- `logrun::words` meets its contract. The invariant: the run so far and the words left are the whole run; the lines so far stand at the start of the buffer,
-- at most 128 bytes a word, and the rest of it is as it was.
use mathlib.Core.Path.{◌≡◌}
use mathlib.Core.List.{◌++◌}
use Prim.Native.Nat.{◌+◌, ◌*◌, ◌≤◌}
use lib.ListN.{length, take, drop}
use Rattle.std.specs.Slice.Iter.{chunks_exact_rest, chunks_exact_size}
use Rattle.events.specs.Bytes.{words_in}
use Rattle.logrun.specs.Progress.{progress_of, words_fed, words_text, Ready}
use Rattle.logrun.proofs.words.Given as goal

abbrev pub invariant-loop-word : goal.invariant-loop-word
invariant-loop-word l =
    (chunks_exact_size l.word-iterator ≡ 4)
    × Ready (progress_of l.t l.course)
    × (l.end + 32 * length (chunks_exact_rest l.word-iterator) ≤ 32 * length l.bytes)
    × (length l.out ≡ length l.initial.out)
    × (words_fed (progress_of l.initial.t l.initial.course) (words_in l.bytes) ≡ words_fed (progress_of l.t l.course) (words_in (chunks_exact_rest l.word-iterator)))
    × (words_text (progress_of l.initial.t l.initial.course) (words_in l.bytes)
    ≡ take l.end l.out ++ words_text (progress_of l.t l.course) (words_in (chunks_exact_rest l.word-iterator)))
    × (drop l.end l.out ≡ drop l.end l.initial.out)
