-- What is asked of floats before they are compared or read as bits: none of them is a NaN.
use Rattle.std.specs.Prelude.{not, T, Float}
use Rattle.std.specs.Float.Ieee.{is_nan}
use Rattle.driverecord.specs.declared.DriveRecord.{DriveRecord}

abbrev pub Number : Float → Type 0
Number x = T (not (is_nan x))

pub record Numbers (r : DriveRecord) : Type 0 where
  pub present : Number r.present
  pub lowest : Number r.lowest
  pub highest : Number r.highest
