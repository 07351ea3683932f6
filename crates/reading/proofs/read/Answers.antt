-- `reading::read` meets its contract: scaling and points of a valid table are sound.
use Rattle.settings.specs.SettingsLaws.{scaling-sound}
use Rattle.reading.specs.ReadingWay.{marked_by_lem}
use Rattle.reading.proofs.read.Goals as goal

pub read_by-requires : goal.read_by-requires
read_by-requires c = let p = c in
    let s = p in
    rw (s.scaling.ensures, p.points.ensures) (scaling-sound s.requires)

pub returns : goal.returns
returns c = let a = c in
    let p = a in
    let s = p in
    rw (c.read_by.ensures, a.analog_span.ensures, p.points.ensures, s.scaling.ensures) (marked_by_lem s.args.t.now s.args.b)
