-- No float of a record is a NaN, in every one that the definitions make. Assumes nothing.
use Rattle.std.specs.Prelude.{Bool, true, false, cond, ℕ, zero, suc, ℤ, pos, negsuc, Float}
use Rattle.std.specs.Float.{nan, inf, fin}
use Rattle.std.specs.Float.Ieee.{is_nan, lt}
use Rattle.analog.specs.declared.Drive.{Drive}
use Rattle.analog.specs.declared.Drive.TheVariants.{Off}
use Rattle.analog.specs.AnalogCode.{CodeFits}
use Rattle.analog.proofs.DriveLaws.{unrounded}
use Rattle.analog.specs.Drives.{divisor, analog_value, float_of, drive_of, CodeDrive}
use Rattle.analog.specs.FloatValue.{Is}
use Rattle.integers.specs.ChoiceLaws.{by-test}
use Rattle.driverecord.specs.declared.DriveRecord.{DriveRecord}
use Rattle.driverecord.specs.DriveRecord.{zero_drive, is_on, present_of, is_empty, empty_at, both_at, widened_by, left_alone, updated_of}
use Rattle.driverecord.specs.Numbers.{Number, Numbers}

-- ---- drives

-- a float that is exactly a fraction is none
is_number : (x : Float) (z : ℤ) (c : ℕ) → Is x z c → Number x
unfolding is_nan
is_number nan (pos n) c h = absurd h
is_number nan (negsuc n) c h = absurd h
is_number (inf s) z c h = tt
is_number (fin s m e) z c h = tt

-- 0, which an off drive is worth
pub off-number : Number zero_drive
unfolding is_nan
off-number = tt

-- the drive of a code, or an off one
pub drive-number : {format : ℕ} {code : ℤ} (d : Drive) → CodeDrive format code d → Number (present_of d)
unfolding drive_of
drive-number {format} {code} d h = rw h.is (go format h.on h.fits)
  where
    exact : (f : ℕ) → CodeFits f code → Number (float_of f code)
    exact f k = is_number (float_of f code) (analog_value f code).num (divisor f) (unrounded f code k).result

    go : (f : ℕ) (on : Bool) → CodeFits f code → Number (present_of (cond on (drive_of f code) Off))
    go zero true k = exact zero k
    go (suc f) true k = exact (suc f) k
    go f false k = off-number

-- ---- records

pub empty-numbers : {p : Float} → Number p → Numbers (empty_at p)
empty-numbers h = record { present = h; lowest = off-number; highest = off-number }

both-numbers : {p : Float} → Number p → Numbers (both_at p)
both-numbers h = record { present = h; lowest = h; highest = h }

widened-numbers : (r : DriveRecord) (p : Float) → Numbers r → Number p → Numbers (widened_by r p)
unfolding widened_by
widened-numbers r p n h =
    by-test (is_empty r) (both_at p) _ Numbers (λ _. both-numbers h)
    (λ _. record {
      present = h;
      lowest = by-test (lt p r.lowest) p r.lowest Number (λ _. h) (λ _. n.lowest);
      highest = by-test (lt r.highest p) p r.highest Number (λ _. h) (λ _. n.highest);
    })

-- brought up to date, a record of numbers stays one
pub updated-numbers : (r : DriveRecord) (d : Drive) → Numbers r → Number (present_of d) → Numbers (updated_of r d)
unfolding updated_of
updated-numbers r d n h =
    by-test (is_on d) (widened_by r (present_of d)) (left_alone r) Numbers (λ _. widened-numbers r (present_of d) n h)
    (λ _. record { present = off-number; lowest = n.lowest; highest = n.highest })
