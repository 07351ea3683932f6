-- `text::words::word_length` meets its contract: the place of the first space, or the length.
use mathlib.Core.Path.{◌≡◌, refl, sym, ◌∙◌}
use borrow.Author.Rules.{rules}
use borrow.Author.Tests.{tests}
use Rattle.std.proofs.lemmas.Iterator.{YieldsList-from_slice, IsFirst-from_position, index_from_first}
use Rattle.text.specs.Marks.{space}
use Rattle.text.specs.WordSteps.{word_length}
use Rattle.text.proofs.Steps.{length-stop, length-next}
use Rattle.text.proofs.words.word_length.Goals as goal

pub returns : goal.returns
unfolding word_length
returns c =
    let s = c.args.s.now in
    let r = c.position.result in
    let first = IsFirst-from_position _ _ r (λ b. b ≡ space) (λ b. b ≡ space → ⊥) c.position.ensures.ran (YieldsList-from_slice s cc) (λ x q k. search (rules, tests)) (λ x q k. search (rules, tests)) in
    c.unwrap_or.ensures ∙ sym (index_from_first word_length (λ b. b ≡ space) (λ b. b ≡ space → ⊥) refl length-stop length-next s r first)
