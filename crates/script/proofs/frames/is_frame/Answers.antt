-- `script::frames::is_frame` meets its contract: at most 300 words of two hex digits.
use Rattle.script.specs.Commands.{is_frame}
use Rattle.script.proofs.frames.is_frame.Goals as goal

pub returns : goal.returns
unfolding is_frame
returns c = c.are_hex.ensures
