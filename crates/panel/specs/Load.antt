-- Loading: the fresh state of a table that loads; a refused load returns its refusal, and the defaults' fresh state as filler.
-- Paper 01, "Where each check sits", load.
use Rattle.std.specs.Prelude.{List, ℤ}
use Rattle.parameters.specs.Load.{load_of}
use Rattle.panel.specs.declared.Loaded.{Loaded}
use Rattle.state.specs.State.{fresh_of}

unfoldable pub loaded_of : List ℤ → Loaded
loaded_of ws = record { refusal = (load_of ws).refusal; state = fresh_of (load_of ws).table }
