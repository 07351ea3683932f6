-- `sheet::log_words::put_log` meets its contract. The invariant is `Left`: the bytes put so far and the words that are left.
use Rattle.text.specs.Words.{words_of}
use Rattle.sheet.specs.LogWordLaws.{Left}
use Rattle.sheet.proofs.log_words.put_log.Given as goal

abbrev pub invariant-loop-w : goal.invariant-loop-w
invariant-loop-w l =
    (goal.iterator-loop-w).can_next l.w-iterator × (goal.iterator-loop-w).is_finite l.w-iterator × Left (words_of l.s) l.initial.out l.out l.p (words_of l.w-iterator.text.now)
