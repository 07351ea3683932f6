-- `ssi::position_by` meets its contract: the callees give the bits without the error bit, decoded, and the mask keeps the field.
use lib.Bits.{and_mask}
use Rattle.ssi.specs.Telegram.{position_of}
use Rattle.ssi.proofs.position_by.Goals as goal

pub returns : goal.returns
unfolding position_of
returns g c = rw (c.mask.ensures, c.width.ensures, c.decode-bits.ensures, c.without.ensures) (and_mask _ _)
