-- The record of present, lowest and highest drive, in the unit of the format, as 32-bit floats. Paper 02, K6. Assumes nothing.
-- RecordLaws says the same in whole numbers.
use Rattle.std.specs.Prelude.{Bool, true, false, cond, eqb, pos, Float}
use Rattle.std.specs.Float.{fin}
use Rattle.std.specs.Float.Ieee.{lt}
use Rattle.analog.specs.declared.Drive.{Drive}
use Rattle.analog.specs.declared.Drive.TheVariants.{Off, Volts, Milliamps}
use Rattle.driverecord.specs.declared.DriveRecord.{DriveRecord}

-- ---- a drive

-- 0 V or 0 mA
abbrev pub zero_drive : Float
zero_drive = fin false 0 (pos 0)

-- whether it is on
abbrev pub is_on : Drive → Bool
is_on Off = false
is_on (Volts x) = true
is_on (Milliamps x) = true

-- present: "drive off .. sets present to zero", in format 2 too; else the drive in its unit
abbrev pub present_of : Drive → Float
present_of Off = zero_drive
present_of (Volts x) = x
present_of (Milliamps x) = x

-- ---- the record

-- the mark of an empty one
abbrev pub is_empty : DriveRecord → Bool
is_empty r = eqb r.empty 1

-- lowest and highest empty; "an empty one holds 0"
abbrev pub empty_at : Float → DriveRecord
empty_at p = record { present = p; lowest = zero_drive; highest = zero_drive; empty = 1 }

-- "A fresh state has present zero and both empty"
abbrev pub fresh_record : DriveRecord
fresh_record = empty_at zero_drive

-- both at present
abbrev pub both_at : Float → DriveRecord
both_at p = record { present = p; lowest = p; highest = p; empty = 0 }

-- the lower and the higher of two drives
abbrev pub lower_of : Float → Float → Float
lower_of x y = cond (lt x y) x y

abbrev pub higher_of : Float → Float → Float
higher_of x y = cond (lt y x) x y

-- with one more drive
unfoldable pub widened_by : DriveRecord → Float → DriveRecord
widened_by r p = cond (is_empty r) (both_at p) (record { present = p; lowest = lower_of p r.lowest; highest = higher_of p r.highest; empty = 0 })

-- "Drive off leaves lowest and highest alone and sets present to zero"
abbrev pub left_alone : DriveRecord → DriveRecord
left_alone r = record { present = zero_drive; lowest = r.lowest; highest = r.highest; empty = r.empty }

-- "brought up to date at the end of each accepted event", with the drive there
unfoldable pub updated_of : DriveRecord → Drive → DriveRecord
updated_of r d = cond (is_on d) (widened_by r (present_of d)) (left_alone r)

-- ---- clear min/max

-- the command marks both empty, at its place; the end of its event brings the record up to date
abbrev pub emptied : DriveRecord → DriveRecord
emptied r = empty_at r.present

-- "and there clear min/max sets both to present, or marks them empty when off": what an event with a clear ends with (`cleared-there`)
unfoldable pub cleared_at : Drive → DriveRecord
cleared_at d = cond (is_on d) (both_at (present_of d)) (empty_at (present_of d))
