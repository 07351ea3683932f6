-- `events::parts::bits` meets its contract: all ones shifted down are the mask of the bits that are kept.
use Rattle.events.proofs.Mask.{bits_are}
use Rattle.events.proofs.parts.bits.Goals as goal

pub returns : goal.returns
returns c = bits_are c.args.w c.args.high c.args.low c.requires.0 c.requires.1
