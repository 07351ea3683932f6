-- What the inputs of the slave do: a line of TABLE to a table, a line of EVENTS and a frame to a panel. Request K2, "slave: on a real line".
-- Main property: only a `slot` line changes a table and only an event steps a panel; any other line but a blank one is refused and changes nothing.
-- A frame is answered as `registers` answers the bytes that the serial line holds.
use Rattle.std.specs.Prelude.{ℕ, Option, None, Some, List, ℤ, unwrap_or}
use Rattle.state.specs.declared.State.{State}
use Rattle.events.specs.declared.Event.{Event}
use Rattle.framing.specs.declared.Collector.{Collector}
use Rattle.framing.specs.Collector.{held}
use Rattle.panel.specs.Step.{step_of}
use Rattle.parameters.specs.Slots.{with_word}
use Rattle.registers.specs.Serve.{Served, served_of}
use Rattle.script.specs.declared.Command.{Command}
use Rattle.script.specs.declared.Command.TheVariants.{Blank, Slot, Telegram, Levels, Tick}
use Rattle.slave.specs.declared.files.Replied.{Replied}

-- ---- "TABLE a text file of console's `slot` lines"

-- the table after a line; none where the line is refused
unfoldable pub listed_of : List ℤ → Command → Option (List ℤ)
listed_of t Blank = Some t
listed_of t (Slot n z) = Some (with_word t n z)
listed_of t _ = None

-- ---- "EVENTS .. a file of console's `t`, `i` and `c` lines"

abbrev pub moved_of : State → Event → State
moved_of s e = (step_of s e).state

-- the panel after a line; none where the line is refused
unfoldable pub stepped_of : State → Command → Option State
stepped_of s Blank = Some s
stepped_of s (Telegram w) = Some (moved_of s (Event.Telegram w))
stepped_of s (Levels l) = Some (moved_of s (Event.Levels l))
stepped_of s (Tick ms) = Some (moved_of s (Event.Tick ms))
stepped_of s _ = None

-- the panel with which the slave goes on behind a line: the one before it where the line is refused
abbrev pub after_line : State → Command → State
after_line s c = unwrap_or (stepped_of s c) s

-- ---- a frame of the serial line

abbrev pub replied_by : Served → Replied
replied_by x = record { state = x.state; reply = x.reply }

abbrev pub replied_of : ℕ → State → Collector → Replied
replied_of node s line = replied_by (served_of node s (held line))
