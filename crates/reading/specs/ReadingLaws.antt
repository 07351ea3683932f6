-- For every table that loads: a reading without error lies within 1/2 + S/2 of L(E), within 1/2 with linearization off, and every result is from −Z to Z,
-- 0 under an error; its drive is that of its code, or off.
-- Paper 01, demand 3's accuracy for one telegram.
use Rattle.std.specs.Prelude.{Option, None, Some, is_some, ◌≡◌, refl, Bool, true, false, cond, not, List, ℕ, eqb, ℤ, pos, neg_ℤ}
use Rattle.std.proofs.Common.{arith}
use Rattle.std.specs.Int.Signed.{lt_z}
use Rattle.analog.proofs.CodeLaws.{code_fits}
use Rattle.analog.specs.Drives.{CodeDrive}
use Rattle.integers.specs.Limit.{Z}
use Rattle.integers.specs.ChoiceLaws.{by-test}
use Rattle.integers.specs.IntLaws.{excl, within}
use Rattle.integers.specs.Int.{Within}
use Rattle.integers.specs.RingLaws.{var, neg, lit, nlt-ex}
use Rattle.integers.specs.Fraction.{Accurate}
use Rattle.measurement.specs.declared.Error.{Error}
use Rattle.measurement.specs.declared.Measured.{Measured}
use Rattle.measurement.proofs.AccuracyLaws.{reading-accurate}
use Rattle.measurement.specs.Measure.{error_number, measured, judged_of, value_of, measured_of}
use Rattle.parameters.specs.Valid.{Valid}
use Rattle.settings.specs.Settings.{scaling_of, points_of, span_of}
use Rattle.settings.specs.SettingsLaws.{scaling-sound, points-ordered}
use Rattle.reading.specs.declared.Basis.{Basis}
use Rattle.reading.specs.Reading.{measured_at, code_at, drive_at, reading_of, curve_from, slope_at}

pub accurate : {t : List ℤ} → Valid t → (b : Basis) → (reading_of t b).error ≡ None → Accurate (reading_of t b).result (curve_from t b.start) (slope_at t)
unfolding reading_of measured_at curve_from slope_at scaling_of
accurate {t} v b e = reading-accurate (scaling_of t) (points_of t) b.start b.reported (scaling-sound v).divider (points-ordered v) e

judged-within : (b : Bool) (z : ℤ) → Within Z (judged_of b z).result
unfolding judged_of
judged-within b z =
    by-test b (measured (pos 0) (Some Error.ErrorBit)) _ Q (λ _. zero)
    (λ _. by-test (lt_z (pos Z) z) (measured (pos 0) (Some Error.AboveRange)) _ Q (λ _. zero)
    (λ h. by-test (lt_z z (neg_ℤ (pos Z))) (measured (pos 0) (Some Error.BelowRange)) (measured z None) Q (λ _. zero)
    (λ l. within Z z (omega (arith, nlt-ex (lit Z) (var z) h, excl z)) (omega (arith, nlt-ex (var z) (neg (lit Z)) l, excl z)))))
  where
    Q : Measured → Type 0
    Q m = Within Z m.result

    zero : Within Z (pos 0)
    zero = record { above = omega arith; below = omega arith }

pub result-within : (t : List ℤ) (b : Basis) → Within Z (reading_of t b).result
unfolding reading_of measured_at measured_of
result-within t b = judged-within b.reported (value_of (scaling_of t) (points_of t) b.start)

-- no error has the number 0, and no other has
pub no-error-numbered : (e : Option Error) → eqb (error_number e) 0 ≡ not (is_some e)
no-error-numbered None = refl
no-error-numbered (Some Error.AboveRange) = refl
no-error-numbered (Some Error.BelowRange) = refl
no-error-numbered (Some Error.ErrorBit) = refl

-- ---- under an error the result is 0, and error 3 is in force exactly where the error bit reports

abbrev pub Zeroed : ℤ → ℕ → Type 0
Zeroed r error = cond (eqb error 0) r (pos 0) ≡ r

judged-zeroed : (b : Bool) (v : ℤ) → Zeroed (judged_of b v).result (error_number (judged_of b v).error)
unfolding judged_of
judged-zeroed b v =
    by-test b (measured (pos 0) (Some Error.ErrorBit)) _ Q (λ _. refl)
    (λ _. by-test (lt_z (pos Z) v) (measured (pos 0) (Some Error.AboveRange)) _ Q (λ _. refl)
    (λ _. by-test (lt_z v (neg_ℤ (pos Z))) (measured (pos 0) (Some Error.BelowRange)) (measured v None) Q (λ _. refl) (λ _. refl)))
  where
    Q : Measured → Type 0
    Q m = Zeroed m.result (error_number m.error)

pub reading-zeroed : (t : List ℤ) (b : Basis) → Zeroed (reading_of t b).result (error_number (reading_of t b).error)
unfolding reading_of measured_at measured_of
reading-zeroed t b = judged-zeroed b.reported (value_of (scaling_of t) (points_of t) b.start)

judged-bit : (b : Bool) (v : ℤ) → eqb (error_number (judged_of b v).error) 3 ≡ b
unfolding judged_of
judged-bit true v = refl
judged-bit false v =
    by-test (lt_z (pos Z) v) (measured (pos 0) (Some Error.AboveRange)) _ Q (λ _. refl)
    (λ _. by-test (lt_z v (neg_ℤ (pos Z))) (measured (pos 0) (Some Error.BelowRange)) (measured v None) Q (λ _. refl) (λ _. refl))
  where
    Q : Measured → Type 0
    Q m = eqb (error_number m.error) 3 ≡ false

pub reading-bit : (t : List ℤ) (b : Basis) → eqb (error_number (reading_of t b).error) 3 ≡ b.reported
unfolding reading_of measured_at measured_of
reading-bit t b = judged-bit b.reported (value_of (scaling_of t) (points_of t) b.start)

-- ---- the drive is that of the code, or off

pub reading-drive : (t : List ℤ) (b : Basis) → CodeDrive (span_of t).format (reading_of t b).code (reading_of t b).drive
unfolding reading_of drive_at code_at
reading-drive t b =
    let a = span_of t in
    let m = measured_at t b in
    record { on = eqb (error_number m.error) 0; is = refl; fits = code_fits a.format a.start a.end m.result }
