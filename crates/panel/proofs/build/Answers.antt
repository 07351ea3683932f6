-- `panel::build` meets its contract: the layout of a valid table is sound.
use Rattle.settings.specs.SettingsLaws.{layout-sound}
use Rattle.panel.proofs.build.Goals as goal

pub build-requires : goal.build-requires
build-requires c = rw c.layout.ensures (layout-sound c.requires)

pub returns : goal.returns
returns c = rw (c.build.ensures, c.layout.ensures)
