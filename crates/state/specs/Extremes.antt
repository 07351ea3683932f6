-- Least and greatest cover error-free results. Paper 01, "Events and inputs". Assumes nothing.
use Rattle.std.specs.Prelude.{true, false, cond, ℕ, eqb, ℤ, pos}
use Rattle.std.specs.Int.Signed.{lt_z}
use Rattle.measurement.specs.Measure.{error_number}
use Rattle.reading.specs.declared.Reading.{Reading}
use Rattle.state.specs.declared.Extremes.{Extremes}

-- no least or greatest result, and both at one result
abbrev pub no_extremes : Extremes
no_extremes = record { any = false; least = pos 0; greatest = pos 0 }

abbrev pub both_at : ℤ → Extremes
both_at r = record { any = true; least = r; greatest = r }

-- the number of a reading's error
abbrev pub error_in : Reading → ℕ
error_in r = error_number r.error

-- "Least and greatest cover error-free results": with one more reading
unfoldable pub widened_of : Extremes → Reading → Extremes
widened_of x r =
    cond (eqb (error_in r) 0)
    (cond x.any
    (record { any = true; least = cond (lt_z r.result x.least) r.result x.least; greatest = cond (lt_z x.greatest r.result) r.result x.greatest })
    (both_at r.result))
    x
