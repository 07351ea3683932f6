-- `text::words::Words` gives the words of its text: none, or the first word, behind which the words of the rest are left.
use Prim.Native.Nat.{◌<◌}
use mathlib.Core.Path.{◌≡◌, sym, ap, ◌∙◌}
use mathlib.Core.List.{[]}
use native.Mathlib.Omega.{arith}
use lib.ListN.{length}
use borrow.Author.Tests.{eqb-true, eqb-false}
use Rattle.text.specs.Words.{words_of}
use Rattle.text.specs.WordSteps.{word_of, rest_of}
use Rattle.text.specs.WordLaws.{no_word, some_word, word-within}
use Rattle.text.proofs.words.WordsIterator.next.Goals as goal

pub split_at-requires : goal.split_at-requires
split_at-requires c = rw c.word_length.ensures (word-within c.unspaced-t.result.now)

pub returns-then-is_empty-clause-steps : goal.returns-then-is_empty-clause-steps
unfolding word_of
returns-then-is_empty-clause-steps c =
    let front : c.split_at.result.0.now ≡ word_of c.args.self.now.text.now = rw (← c.unspaced-t.ensures, ← c.word_length.ensures) c.split_at.ensures.front in
    let none : words_of c.args.self.now.text.now ≡ [] = no_word _ (sym (ap length front) ∙ eqb-true _ 0 (sym c.is_empty.ensures ∙ c.if-is_empty.true)) in
    (none, none)

pub returns-clause-steps : goal.returns-clause-steps
unfolding word_of rest_of
returns-clause-steps c =
    let s = c.args.self.now.text.now in
    let front : c.split_at.result.0.now ≡ word_of s = rw (← c.unspaced-t.ensures, ← c.word_length.ensures) c.split_at.ensures.front in
    let back : c.split_at.result.1.now ≡ rest_of s = rw (← c.unspaced-t.ensures, ← c.word_length.ensures) c.split_at.ensures.back in
    let filled = eqb-false _ 0 (sym c.is_empty.ensures ∙ c.if-is_empty.false) in
    let some : 0 < length (word_of s) = omega (arith, filled, ap length front) in
    rw (front, back) (some_word _ some)

pub returns-clause-goes : goal.returns-clause-goes
returns-clause-goes c =
    let e = returns-clause-steps c in
    record { on = λ _. (tt, tt, rw e (omega arith)); keeps = tt; rests = λ _. tt }
