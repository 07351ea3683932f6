-- One reading under a table: a telegram gives the position after direction and whether its error bit reports; these become a result or an error, and the result drives
-- the analog line. While a round loop is set the count U stands in the position's place (Follow).
-- Paper 01, "From telegram to result" and "Analog value", held together; paper 02, K7, the marks beside a reading. Assumes nothing.
use Rattle.std.specs.Prelude.{Bool, false, cond, List, ℕ, ◌+◌, ◌/◌, ◌%◌, eqb, ℤ}
use Rattle.analog.specs.declared.Drive.{Drive}
use Rattle.analog.specs.declared.Drive.TheVariants.{Off}
use Rattle.analog.specs.declared.Coded.{Coded}
use Rattle.analog.specs.AnalogCode.{code_of, coded_of}
use Rattle.analog.specs.Drives.{drive_of}
use Rattle.integers.specs.Fraction.{Frac, Ratio}
use Rattle.measurement.specs.declared.Measured.{Measured}
use Rattle.measurement.specs.declared.Measurement.{Measurement}
use Rattle.measurement.specs.Curve.{steepest}
use Rattle.measurement.specs.Measure.{error_number, directed_of, measured_of, measurement_of, used_points, exact_curve}
use Rattle.parameters.specs.Slots.{direction, linearization}
use Rattle.settings.specs.declared.Span.{Span}
use Rattle.settings.specs.Settings.{layout_of, scaling_of, points_of, span_of}
use Rattle.ssi.specs.Telegram.{accepted, error_reported, position_of, width_of}
use Rattle.reading.specs.declared.Basis.{Basis}
use Rattle.reading.specs.declared.Reading.{Reading}
use Rattle.reading.specs.declared.Halves.{Halves}
use Rattle.reading.specs.declared.Marked.{Marked}

-- Where each check sits, 11: accepted unless a bit above N is set
unfoldable pub accepts_of : List ℤ → ℕ → Bool
accepts_of t w = accepted (layout_of t) w

-- step 1: "p after direction"
unfoldable pub directed_at : List ℤ → ℕ → ℕ
directed_at t w = directed_of (direction t) (width_of (layout_of t)) (position_of (layout_of t) w)

-- what a telegram's result starts from without a round loop: p after direction, and nothing is counted
unfoldable pub basis_of : List ℤ → ℕ → Basis
basis_of t w = record { start = directed_at t w; last = 0; reported = error_reported (layout_of t) w; counted = false }

-- steps 2 to 5: the result and the error
unfoldable pub measured_at : List ℤ → Basis → Measured
measured_at t b = measured_of (scaling_of t) (points_of t) b.start b.reported

-- the same with the marks of scaling and linearization
unfoldable pub measurement_at : List ℤ → Basis → Measurement
measurement_at t b = measurement_of (scaling_of t) (points_of t) b.start b.reported

-- the code of the result in the format and between the ends of a span, and the same with its mark
unfoldable pub code_at : Span → Measured → ℤ
code_at a m = code_of a.format a.start a.end m.result

unfoldable pub coded_at : Span → Measured → Coded
coded_at a m = coded_of a.format a.start a.end m.result

-- step 5, "under an error the analog drive is off"; else the drive of the code
unfoldable pub drive_at : Span → Measured → Drive
drive_at a m = cond (eqb (error_number m.error) 0) (drive_of a.format (code_at a m)) Off

unfoldable pub reading_of : List ℤ → Basis → Reading
reading_of t b =
    record {
      result = (measured_at t b).result;
      error = (measured_at t b).error;
      code = code_at (span_of t) (measured_at t b);
      drive = drive_at (span_of t) (measured_at t b);
    }

-- ---- K7, where a half decided

-- the three marks as one number: 1 for scaling, 2 for linearization, 4 for the analog value, added; and none of them
abbrev pub mark : Bool → ℕ → ℕ
mark half worth = cond half worth 0

abbrev pub halves : Bool → Bool → Bool → Halves
halves scaling linearization analog = record { number = mark scaling 1 + mark linearization 2 + mark analog 4 }

abbrev pub no_halves : Halves
no_halves = record { number = 0 }

abbrev pub halves_number : Halves → ℕ
halves_number h = h.number

-- each of them again
abbrev pub in_scaling : ℕ → Bool
in_scaling h = eqb (h % 2) 1

abbrev pub in_linearization : ℕ → Bool
in_linearization h = eqb (h / 2 % 2) 1

abbrev pub in_analog : ℕ → Bool
in_analog h = eqb (h / 4 % 2) 1

-- "Scaling, linearization and analog value each pass on their own"; "All three are no under an error"
unfoldable pub marks_of : Measurement → Bool → Halves
marks_of x analog = cond (eqb (error_number x.measured.error) 0) (halves x.scaling x.linearization analog) no_halves

unfoldable pub halves_of : List ℤ → Basis → Halves
halves_of t b = marks_of (measurement_at t b) (coded_at (span_of t) (measured_at t b)).half

-- a reading with its marks
unfoldable pub marked_of : List ℤ → Basis → Marked
marked_of t b = record { reading = reading_of t b; halves = halves_of t b }

-- ---- the curve

-- L(E) of what a result starts from; and S
unfoldable pub curve_from : List ℤ → ℕ → Frac
curve_from t p = exact_curve (scaling_of t) (points_of t) p

unfoldable pub slope_at : List ℤ → Ratio
slope_at t = steepest (linearization t) (used_points (scaling_of t) (points_of t))
