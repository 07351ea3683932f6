-- `script::frames::frame` meets its contract: the words behind the first are a frame, or there are no bytes.
use mathlib.Core.Path.{sym, ◌∙◌}
use Rattle.script.specs.Commands.{frame_in, frame_of, packed}
use Rattle.text.specs.WordLaws.{others-of}
use Rattle.script.proofs.frames.frame.Goals as goal

pub gathered-requires : goal.gathered-requires
gathered-requires c = sym c.is_frame.ensures ∙ c.if-is_frame.true

pub returns-then-is_frame : goal.returns-then-is_frame
unfolding frame_of frame_in
returns-then-is_frame c = let f = c in
    rw (← f.trimmed.ensures, others-of _, ← f.rest-s.ensures, ← f.is_frame.ensures, c.if-is_frame.true, c.gathered.ensures)

pub returns : goal.returns
unfolding frame_of frame_in packed
returns c = let f = c in
    rw (← f.trimmed.ensures, others-of _, ← f.rest-s.ensures, ← f.is_frame.ensures, c.if-is_frame.false)
