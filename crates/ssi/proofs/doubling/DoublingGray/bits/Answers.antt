-- `ssi::doubling::Doubling::bits` meets its contract: the mask keeps the telegram's own bits, and five steps of exclusive or give the position.
use lib.Bits.{and_mask}
use Rattle.ssi.proofs.DoublingLaws.{decoded-doubled}
use Rattle.ssi.proofs.doubling.DoublingGray.bits.Goals as goal

pub returns : goal.returns
returns c = let a = c.args in
    rw (c.mask.ensures, and_mask a.t a.n) (decoded-doubled a.n a.t c.requires.1)
