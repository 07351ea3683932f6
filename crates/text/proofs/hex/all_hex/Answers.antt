-- `text::hex::all_hex` meets its contract: the chain's test is the definition's.
use borrow.Author.Rules.{rules}
use borrow.Author.Tests.{tests}
use Rattle.std.specs.Option.{is_some}
use Rattle.std.proofs.lemmas.Iterator.{YieldsList-from_slice}
use Rattle.std.proofs.lemmas.Iterator.Search.{all_from_yields_List}
use Rattle.text.specs.Hex.{hex_digit, all_hex}
use Rattle.text.proofs.hex.all_hex.Goals as goal

pub returns : goal.returns
unfolding all_hex
returns c = all_from_yields_List (λ b. is_some (hex_digit b)) _ _ _ c.all.ensures.ran (YieldsList-from_slice c.args.s.now cc) (λ x b q k. search (rules, tests))
