-- `dispatcher::next` meets its contract: an empty group has none, else by the definition's own choice.
use Rattle.std.proofs.Common.{◌≡◌, ℕ, Option, None, Some, sym, ◌∙◌, rules}
use Rattle.std.specs.Option.{MatchOption, option_or}
use Rattle.addresses.specs.Addresses.{holds}
use Rattle.addresses.specs.Search.{lowest_above}
use Rattle.dispatcher.specs.Dispatch.{next_of}
use Rattle.dispatcher.proofs.TurnLaws.{next-empty}
use Rattle.dispatcher.proofs.Group.next.Goals as goal

pub returns-then-is_empty : goal.returns-then-is_empty
returns-then-is_empty c = sym (next-empty c.args.self.now (sym c.is_empty.ensures ∙ c.if-is_empty.true))

-- the first, or what the closure gives
or_by : {P : Type 0} (o r q : Option ℕ) → MatchOption o P (λ x. r ≡ Some x) → (P → r ≡ q) → r ≡ option_or o q
or_by None r q h f = f h
or_by (Some x) r q h f = h

pub returns : goal.returns
unfolding next_of
returns c = let m = c.args.self.now.members in
    let low = or_by c.lowest_above.result c.or_else.result (lowest_above (holds m) 0) c.or_else.ensures (λ p. search rules) in
    rw c.lowest_above.ensures at low
