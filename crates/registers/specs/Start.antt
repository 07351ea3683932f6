-- A panel is started with a node address and a table. Request K2, "A node address from 1 to 247 is given at the start", and error 33.
use Rattle.std.specs.Prelude.{Bool, cond, ◌&&◌, Option, Some, None, List, ℕ, leb, ℤ}
use Rattle.std.specs.Option.{option_map}
use Rattle.state.specs.State.{fresh_of}
use Rattle.panel.specs.Load.{loaded_of}
use Rattle.parameters.specs.Rows.{default_table}
use Rattle.parameters.specs.Refusals.{refusal_number, refusal_slot}
use Rattle.registers.specs.declared.StartRefusal.{StartRefusal}
use Rattle.registers.specs.declared.StartRefusal.TheVariants.{Node, Table}
use Rattle.registers.specs.declared.Started.{Started}

-- "from 1 to 247"
unfoldable pub is_node : ℕ → Bool
is_node node = leb 1 node && leb node 247

-- the number of a refused start: 33, or that of the load's refusal; and the slot that the latter names, else 0
abbrev pub start_number : StartRefusal → ℕ
start_number Node = 33
start_number (Table r) = refusal_number r

abbrev pub start_slot : StartRefusal → ℕ
start_slot Node = 0
start_slot (Table r) = refusal_slot r

-- the number and the slot that are told of a start: 0 and 0 where there is no refusal
abbrev pub start_number_told : Option StartRefusal → ℕ
start_number_told None = 0
start_number_told (Some r) = start_number r

abbrev pub start_slot_told : Option StartRefusal → ℕ
start_slot_told None = 0
start_slot_told (Some r) = start_slot r

-- 33 "another node address at the start, tested before the load, nothing starts": the defaults' fresh state is a filler, as in a refused load
unfoldable pub started_of : ℕ → List ℤ → Started
started_of node ws =
    cond (is_node node)
    (record { refusal = option_map Table (loaded_of ws).refusal; state = (loaded_of ws).state })
    (record { refusal = Some Node; state = fresh_of default_table })
