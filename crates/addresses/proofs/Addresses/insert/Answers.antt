-- `addresses::insert` meets its contract: the bit is set in its word.
use Prim.Native.Nat.{◌%◌}
use native.Mathlib.Nat.{mod-lt}
use lib.Dec.{lit<}
use Rattle.addresses.specs.Addresses.{including}
use Rattle.addresses.proofs.AddressLaws.{one_bit}
use Rattle.addresses.proofs.Addresses.insert.Goals as goal

pub returns : goal.returns
unfolding including
returns c = rw (c.from-i.ensures, one_bit (c.args.a % 64) (mod-lt c.args.a (lit< tt)))
