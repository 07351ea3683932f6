-- `reading::marks` meets its contract: without an error each rounding's own mark, else none.
use Rattle.reading.specs.Reading.{marks_of}
use Rattle.reading.specs.ReadingLaws.{no-error-numbered}
use Rattle.reading.proofs.marks.Goals as goal

pub returns-then-is_none : goal.returns-then-is_none
unfolding marks_of
returns-then-is_none c = rw (no-error-numbered c.args.x.measured.error, c.is_none.ensures, c.if-is_none.true, c.added.ensures)

pub returns : goal.returns
unfolding marks_of
returns c = rw (no-error-numbered c.args.x.measured.error, c.is_none.ensures, c.if-is_none.false, c.no_halves.ensures)
