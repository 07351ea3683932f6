-- `text::words::unspaced` meets its contract: the part from the first byte on that is no space, behind the spaces in front.
use mathlib.Core.Path.{◌≡◌, refl, sym, ◌∙◌}
use borrow.Author.Rules.{rules}
use borrow.Author.Tests.{tests}
use Rattle.std.proofs.lemmas.Iterator.{YieldsList-from_slice, IsFirst-from_position, index_from_first}
use Rattle.text.specs.Marks.{space}
use Rattle.text.specs.WordLaws.{part-all}
use Rattle.text.proofs.Steps.{spaces, spaces-stop, spaces-next, spaces-behind}
use Rattle.text.proofs.words.unspaced.Goals as goal

pub returns : goal.returns
unfolding spaces
returns c =
    let s = c.args.s.now in
    let r = c.position.result in
    let first = IsFirst-from_position _ _ r (λ b. b ≡ space → ⊥) (λ b. b ≡ space) c.position.ensures.ran (YieldsList-from_slice s cc) (λ x q k. search (rules, tests)) (λ x q k. search (rules, tests)) in
    let n : c.unwrap_or-n.result ≡ spaces s = c.unwrap_or-n.ensures ∙ sym (index_from_first spaces (λ b. b ≡ space → ⊥) (λ b. b ≡ space) refl spaces-stop spaces-next s r first) in
    part-all s c.unwrap_or-n.result ∙ rw n (spaces-behind s)
