-- `reading::driven` meets its contract: without an error the drive of the code, which fits its format, else off.
use mir.Facts.{to_z-of_z}
use Rattle.analog.proofs.CodeLaws.{code_fits}
use Rattle.reading.specs.Reading.{code_at, drive_at}
use Rattle.reading.specs.ReadingLaws.{no-error-numbered}
use Rattle.reading.proofs.driven.Goals as goal

pub drive_of-requires : goal.drive_of-requires
unfolding code_at
drive_of-requires c = let s = c in
    rw (to_z-of_z s.ranges.code, s.requires) (code_fits _ _ _ _)

pub returns-then-is_none : goal.returns-then-is_none
unfolding drive_at
returns-then-is_none c =
    rw (
      no-error-numbered c.args.m.error,
      c.is_none.ensures,
      c.if-is_none.true,
      c.drive_of.ensures.is,
      to_z-of_z c.ranges.code,
      c.requires,
    )

pub returns : goal.returns
unfolding drive_at
returns c = rw (no-error-numbered c.args.m.error, c.is_none.ensures, c.if-is_none.false)
