-- No error, asked of the option, is the number 0.
use Rattle.std.specs.Prelude.{◌≡◌, Bool, true, false, not, Option, is_some, eqb}
use Rattle.std.proofs.Common.{ap, ◌∙◌}
use Rattle.measurement.specs.declared.Error.{Error}
use Rattle.measurement.specs.Measure.{error_number}
use Rattle.reading.specs.ReadingLaws.{no-error-numbered}

none-is : (some none : Bool) → some ≡ not none → not some ≡ none
none-is some true e = ap not e
none-is some false e = ap not e

pub no-error : (e : Option Error) (none : Bool) → is_some e ≡ not none → eqb (error_number e) 0 ≡ none
no-error e none h = no-error-numbered e ∙ none-is (is_some e) none h
