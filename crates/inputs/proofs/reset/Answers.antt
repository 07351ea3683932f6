-- `inputs::reset` meets its contract: the offset stored is what the result starts from, the table stays valid, and the result is worked out under it.
use mathlib.Core.Path.{◌≡◌}
use native.Mathlib.Omega.{arith}
use lib.IntN.{pos}
use mir.Syntax.{w32}
use mir.Val.{to_z}
use mir.Facts.{to_z_pos}
use Rattle.parameters.proofs.StoreLaws.{valid-offset}
use Rattle.reading.specs.Reading.{marked_of}
use Rattle.state.specs.State.{reread_of}
use Rattle.inputs.specs.Commands.{reset_of}
use Rattle.inputs.proofs.reset.Goals as goal

pub read-m-requires : goal.read-m-requires
read-m-requires c =
    let start_is : let l = c.args.l in to_z w32 l.basis.start ≡ pos l.basis.start =
    let s = c in to_z_pos w32 {n = s.args.l.basis.start} (omega (arith, s.requires.1)) in
    let b = c in
    let s = b in
    rw (b.store_offset.ensures, start_is) (valid-offset s.requires.0 (record { above = s.requires.1; below = omega arith }))

pub returns : goal.returns
unfolding reset_of reread_of marked_of
returns c =
    let start_is : let l = c.args.l in to_z w32 l.basis.start ≡ pos l.basis.start =
    let s = c in to_z_pos w32 {n = s.args.l.basis.start} (omega (arith, s.requires.1)) in
    let m = c in
    let b = m in
    let o = b.store_offset.ensures in
    record {
      is = rw (c.reread-live.ensures, m.read-m.ensures, o, start_is);
      marks = rw (m.read-m.ensures, o, start_is);
    }
