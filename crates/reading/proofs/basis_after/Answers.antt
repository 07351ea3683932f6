-- `reading::basis_after` meets its contract: the layout of a valid table is sound, so the position is below M.
use Rattle.settings.specs.Settings.{layout_of, scaling_of}
use Rattle.settings.specs.SettingsLaws.{layout-sound}
use Rattle.ssi.proofs.SoundLaws.{position-lt}
use Rattle.reading.specs.ReadingWay.{basis-by}
use Rattle.reading.proofs.basis_after.Goals as goal

pub position-p-requires : goal.position-p-requires
position-p-requires c = rw c.layout-l.ensures (layout-sound c.requires)

pub error_reported-reported-requires : goal.error_reported-reported-requires
error_reported-reported-requires c = rw c.layout-l.ensures (layout-sound c.requires)

pub basis_by-requires : goal.basis_by-requires
basis_by-requires c = let p = c in
    let l = p in
    rw (p.position-p.ensures, l.layout-l.ensures) (layout-sound l.requires, position-lt (layout_of l.args.t.now) l.args.telegram)

pub returns : goal.returns
unfolding scaling_of
returns c = let r = c in
    let d = r in
    let e = d in
    let p = e in
    let l = p in
    rw (c.basis_by.ensures, r.round_loop.ensures, d.direction.ensures, e.error_reported-reported.ensures, p.position-p.ensures, l.layout-l.ensures)
    (basis-by l.args.t.now l.args.b l.args.telegram)
