-- `ssi::mask` meets its contract: of 32 ones, `32 - width` are shifted out.
use Rattle.ssi.specs.FieldLaws.{mask_is}
use Rattle.ssi.proofs.mask.Goals as goal

pub returns : goal.returns
returns c = mask_is c.args.width c.requires.1
