-- `sheet::log_words::put_log` meets its contract: each turn puts the bytes of the number that one word is, and the words behind it are left.
use mathlib.Core.Path.{◌≡◌, ap}
use Rattle.text.specs.Words.{words_of}
use Rattle.sheet.specs.LogWordLaws.{left-all, left-none, left-hex, left-room, left-next}
use Rattle.sheet.proofs.log_words.put_log.Goals as goal

pub loop-w-init : goal.loop-w-init
loop-w-init c = (tt, tt, rw (ap (λ x. words_of x.text.now) c.into_iter-w-iterator.ensures.into_iter_gives) (left-all _ _ c.requires.1))

pub value-requires : goal.value-requires
value-requires c = left-hex _ _ _ _ _ _ (rw c.in-Some.ensures.steps at c.loop-w.invariant.2) c.requires.0

pub put_word-p-requires : goal.put_word-p-requires
put_word-p-requires c = left-room _ _ _ _ _ _ (rw c.in-Some.ensures.steps at c.loop-w.invariant.2) c.requires.0

pub loop-w-preserved : goal.loop-w-preserved
loop-w-preserved c = (tt, tt, left-next _ _ _ _ _ _ (rw c.in-Some.ensures.steps at c.loop-w.invariant.2) c.requires.0 (rw c.value.ensures at c.put_word-p.ensures))

pub returns : goal.returns
returns c = left-none _ _ _ _ (rw c.in-None.ensures.steps.0 at c.loop-w.invariant.2)
