-- `addresses::has` meets its contract: the bit is the definition's.
use Rattle.addresses.specs.Addresses.{holds}
use Rattle.addresses.proofs.Addresses.has.Goals as goal

pub returns : goal.returns
unfolding holds
returns c = rw c.from-i.ensures
