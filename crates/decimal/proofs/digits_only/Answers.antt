-- `decimal::digits_only` meets its contract: the chain's test is the definition's.
use borrow.Author.Rules.{rules}
use borrow.Author.Tests.{tests}
use Rattle.std.proofs.lemmas.Iterator.{YieldsList-from_slice}
use Rattle.std.proofs.lemmas.Iterator.Search.{all_from_yields_List}
use Rattle.decimal.specs.ByteSteps.{is_digit, all_digits}
use Rattle.decimal.proofs.digits_only.Goals as goal

pub returns : goal.returns
unfolding all_digits
returns c = all_from_yields_List is_digit _ _ _ c.all.ensures.ran (YieldsList-from_slice c.args.s.now cc) (λ x b q k. search (rules, tests))
