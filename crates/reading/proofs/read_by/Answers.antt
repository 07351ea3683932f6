-- `reading::read_by` meets its contract: the measured result and error, their code and its drive, and the marks of the three roundings.
use borrow.Author.Rules.{rules}
use mathlib.Core.Path.{◌≡◌}
use mir.Syntax.{w32}
use Rattle.integers.specs.IntLaws.{bk}
use Rattle.analog.specs.AnalogCode.{coded_of}
use Rattle.measurement.specs.Measure.{measurement_of}
use Rattle.reading.specs.Reading.{code_at, coded_at}
use Rattle.reading.proofs.read_by.Goals as goal

pub driven-drive-requires : goal.driven-drive-requires
unfolding code_at coded_at coded_of
driven-drive-requires c = let k : bk w32 c.code_of-c.result.code ≡ c.code_of-c.result.code = search rules in
    rw (k, c.code_of-c.ensures)

pub returns : goal.returns
unfolding measurement_of code_at coded_at coded_of
returns c = let d = c in
    let k = d in
    let m = k.measure-x in
    let r : bk w32 m.result.measured.result ≡ m.result.measured.result = search rules in
    let z : bk w32 k.code_of-c.result.code ≡ k.code_of-c.result.code = search rules in
    rw (r, z, d.driven-drive.ensures, c.marks-halves.ensures, k.code_of-c.ensures, m.ensures)
