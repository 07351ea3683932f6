-- `addresses::remove` meets its contract: the bit is cleared in its word.
use Rattle.std.proofs.Common.{◌%◌, ◌/◌, ◌<◌, ◌^◌, mod-lt, lit<, get_or, rules}
use Rattle.addresses.specs.Addresses.{excluding}
use Rattle.addresses.proofs.AddressLaws.{cleared}
use Rattle.addresses.proofs.Addresses.remove.Goals as goal

pub returns : goal.returns
unfolding excluding
returns c =
    let small : get_or c.args.self.now.words (c.args.a / 64) 0 < 2 ^ 64 = search rules in
    rw (c.from-i.ensures, cleared (get_or c.args.self.now.words (c.args.a / 64) 0) (c.args.a % 64) small (mod-lt c.args.a (lit< tt)))
