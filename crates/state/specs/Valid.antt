-- The validity of a state, which every step asks for and promises again: its table is valid, its result is from −Z to Z, and no float that it holds is a NaN.
-- `inputs::act`, `panel::advance` and `panel::step` require it, and nothing else.
use Rattle.integers.specs.Limit.{Z}
use Rattle.integers.specs.Int.{Within}
use Rattle.parameters.specs.Valid.{Valid}
use Rattle.driverecord.specs.DriveRecord.{present_of}
use Rattle.driverecord.specs.Numbers.{Number, Numbers}
use Rattle.state.specs.declared.State.{State}

pub record Good (s : State) : Type 0 where
  pub table : Valid s.table
  pub result : Within Z s.live.reading.result
  -- K6: what the line is driven with, and the record of it
  pub drive : Number (present_of s.live.reading.drive)
  pub driven : Numbers s.live.driven
