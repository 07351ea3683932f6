-- The same record in whole numbers: made of the codes that were driven since the last clear. Paper 02, K6. Assumes nothing.
use Rattle.std.specs.Prelude.{cond, List, [], ◌∷◌, ℕ, ℤ, Float}
use Rattle.analog.specs.declared.Drive.{Drive}
use Rattle.analog.specs.Drives.{float_of}
use Rattle.driverecord.specs.Least.{least_of, greatest_of}
use Rattle.driverecord.specs.declared.DriveRecord.{DriveRecord}
use Rattle.driverecord.specs.DriveRecord.{is_on, empty_at}

-- the codes driven, the newest first, with one more where the drive is on
unfoldable pub driven_by : Drive → ℤ → List ℤ → List ℤ
driven_by d code codes = cond (is_on d) (code ∷ codes) codes

-- present as given; lowest and highest are the drives of the least and the greatest code, empty where there is none
unfoldable pub record_of : ℕ → Float → List ℤ → DriveRecord
record_of format p [] = empty_at p
record_of format p (c ∷ cs) = record { present = p; lowest = float_of format (least_of c cs); highest = float_of format (greatest_of c cs); empty = 0 }
