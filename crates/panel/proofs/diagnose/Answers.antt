-- `panel::diagnose` meets its contract: the layout of a valid table is sound, and its bits per turn are 10 to 16.
use native.Mathlib.Omega.{arith}
use Rattle.parameters.proofs.RangeLaws.{bits-per-turn-range}
use Rattle.settings.specs.SettingsLaws.{layout-sound}
use Rattle.panel.proofs.diagnose.Goals as goal

pub diagnose-requires : goal.diagnose-requires
diagnose-requires c = let b = c in
    let v = b.requires in
    let r = bits-per-turn-range v in
    rw (b.layout.ensures, c.bits_per_turn.ensures) (layout-sound v, omega (arith, r), omega (arith, r))

pub returns : goal.returns
returns c = rw (c.diagnose.ensures, c.bits_per_turn.ensures, c.layout.ensures)
