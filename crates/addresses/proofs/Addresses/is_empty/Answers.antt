-- `addresses::is_empty` meets its contract: four words are all 0 where the words joined are 0.
use Rattle.std.proofs.Common.{◌≡◌, ◌∙◌, length, rules}
use Rattle.addresses.specs.Addresses.{is_empty}
use Rattle.addresses.proofs.AddressLaws.{all_zero}
use Rattle.addresses.proofs.Addresses.is_empty.Goals as goal

pub returns : goal.returns
unfolding is_empty
returns c = let l : length c.args.self.now.words ≡ 4 = search rules in
    c.eq.ensures ∙ all_zero c.args.self.now.words l
