-- `reading::accepts` meets its contract: the layout of a valid table is sound.
use Rattle.settings.specs.SettingsLaws.{layout-sound}
use Rattle.reading.specs.Reading.{accepts_of}
use Rattle.reading.proofs.accepts.Goals as goal

pub accepts-requires : goal.accepts-requires
accepts-requires c = rw c.layout.ensures (layout-sound c.requires)

pub returns : goal.returns
unfolding accepts_of
returns c = rw (c.accepts.ensures, c.layout.ensures)
