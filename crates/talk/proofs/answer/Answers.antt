-- `talk::answer` meets its contract: the room of a line's answer fits in memory.
use Rattle.std.proofs.Common.{arith}
use Rattle.talk.proofs.answer.Goals as goal

pub line-end-requires : goal.line-end-requires
line-end-requires g c = (omega (arith, g.met.D.Dialog.fits), c.requires.0)

pub shared_whole_as_front-write_all : goal.shared_whole_as_front-write_all
shared_whole_as_front-write_all g c = (c.line-end.ensures.within, omega (arith, g.met.D.Dialog.fits))
