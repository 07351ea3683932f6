-- The record in whole numbers: brought up to date with the drive of one more code it is the record of the codes with that one (`updated-codes`), since drives compare
-- as codes do; and an event with a clear ends with both at present, or empty (`cleared-there`). Paper 02, K6. Assumes nothing.
use Rattle.std.specs.Prelude.{◌≡◌, Bool, ℕ, zero, suc, ℤ, Float}
use Rattle.std.proofs.Math.Path.{refl}
use Rattle.std.proofs.Common.{sym, ap, ◌∙◌}
use Rattle.std.proofs.Math.Bool.{true, false, cond}
use mathlib.Core.List.{List, [], ◌∷◌}
use Rattle.std.specs.Int.Signed.{lt_z}
use Rattle.analog.specs.declared.Drive.{Drive}
use Rattle.analog.specs.declared.Drive.TheVariants.{Off, Volts, Milliamps}
use Rattle.analog.specs.AnalogCode.{CodeFits}
use Rattle.analog.proofs.DriveLaws.{drive-order}
use Rattle.analog.specs.Drives.{float_of, drive_of, CodeDrive}
use Rattle.integers.specs.ChoiceLaws.{map-cond}
use Rattle.driverecord.specs.Least.{lesser, greater, least_of, greatest_of, Each}
use Rattle.driverecord.specs.LeastLaws.{each-among, least-among, greatest-among}
use Rattle.driverecord.specs.declared.DriveRecord.{DriveRecord}
use Rattle.driverecord.specs.Codes.{driven_by, record_of}
use Rattle.driverecord.specs.DriveRecord.{is_on, present_of, lower_of, higher_of, widened_by, left_alone, updated_of, emptied, cleared_at}

-- ---- a clear

-- "there clear min/max sets both to present, or marks them empty when off"
pub cleared-there : (r : DriveRecord) (d : Drive) → updated_of (emptied r) d ≡ cleared_at d
unfolding updated_of widened_by cleared_at
cleared-there r Off = refl
cleared-there r (Volts x) = refl
cleared-there r (Milliamps x) = refl

-- ---- the drive of a code

pub on-present : (format : ℕ) (code : ℤ) → present_of (drive_of format code) ≡ float_of format code
unfolding drive_of
on-present zero code = refl
on-present (suc k) code = refl

pub on-on : (format : ℕ) (code : ℤ) → is_on (drive_of format code) ≡ true
unfolding drive_of
on-on zero code = refl
on-on (suc k) code = refl

-- ---- the codes

module _ (format : ℕ) where
  -- the lower of two drives is the drive of the lesser code
  lower-codes : {a b : ℤ} → CodeFits format a → CodeFits format b → lower_of (float_of format a) (float_of format b) ≡ float_of format (lesser a b)
  lower-codes {a} {b} h k =
      ap (λ (c : Bool). cond c (float_of format a) (float_of format b)) (drive-order format a b h k) ∙ sym (map-cond (float_of format) (lt_z a b) a b)

  higher-codes : {a b : ℤ} → CodeFits format a → CodeFits format b → higher_of (float_of format a) (float_of format b) ≡ float_of format (greater a b)
  higher-codes {a} {b} h k =
      ap (λ (c : Bool). cond c (float_of format a) (float_of format b)) (drive-order format b a k h) ∙ sym (map-cond (float_of format) (lt_z b a) a b)

  widened-codes : (p : Float) (c : ℤ) (cs : List ℤ) → CodeFits format c → Each (CodeFits format) cs →
      widened_by (record_of format p cs) (float_of format c) ≡ record_of format (float_of format c) (c ∷ cs)
  unfolding widened_by record_of least_of greatest_of
  widened-codes p c [] h k = refl
  widened-codes p c (d ∷ ds) h k =
      rw (lower-codes h (each-among (CodeFits format) (d ∷ ds) k (least-among d ds)), higher-codes h (each-among (CodeFits format) (d ∷ ds) k (greatest-among d ds)))

  left-alone-codes : (p : Float) (cs : List ℤ) → left_alone (record_of format p cs) ≡ record_of format (present_of Off) cs
  unfolding record_of
  left-alone-codes p [] = refl
  left-alone-codes p (c ∷ cs) = refl

  -- a record of codes is brought up to date by one more code
  pub updated-codes : (p : Float) (c : ℤ) (cs : List ℤ) (d : Drive) → CodeDrive format c d → Each (CodeFits format) cs →
      updated_of (record_of format p cs) d ≡ record_of format (present_of d) (driven_by d c cs)
  unfolding updated_of driven_by
  updated-codes p c cs d w k = rw w.is (go w.on)
    where
      go : (on : Bool) → let d = cond on (drive_of format c) Off in
          cond (is_on d) (widened_by (record_of format p cs) (present_of d)) (left_alone (record_of format p cs)) ≡ record_of format (present_of d) (cond (is_on d) (c ∷ cs) cs)
      go true = rw (on-on format c, on-present format c) (widened-codes p c cs w.fits k)
      go false = left-alone-codes p cs

  -- and every code of it fits
  pub driven-fits : (c : ℤ) (cs : List ℤ) (d : Drive) → CodeFits format c → Each (CodeFits format) cs → Each (CodeFits format) (driven_by d c cs)
  unfolding driven_by
  driven-fits c cs d h k = go (is_on d)
    where
      go : (on : Bool) → Each (CodeFits format) (cond on (c ∷ cs) cs)
      go true = (h, k)
      go false = k

  -- a clear leaves the record of no code
  pub emptied-codes : (p : Float) (cs : List ℤ) → emptied (record_of format p cs) ≡ record_of format p []
  unfolding record_of
  emptied-codes p [] = refl
  emptied-codes p (c ∷ cs) = refl
