-- The fresh state of a valid table is good, and the result worked out again and the record brought up to date leave a good state.
use Rattle.std.specs.Prelude.{List, ℕ, ℤ}
use Rattle.std.proofs.Common.{arith}
use Rattle.parameters.specs.Valid.{Valid}
use Rattle.driverecord.specs.DriveRecord.{present_of}
use Rattle.driverecord.proofs.NumberLaws.{drive-number, off-number, empty-numbers, updated-numbers}
use Rattle.driverecord.specs.Numbers.{Number, Numbers}
use Rattle.reading.specs.declared.Basis.{Basis}
use Rattle.reading.specs.Reading.{reading_of}
use Rattle.reading.specs.ReadingLaws.{result-within, reading-drive}
use Rattle.state.specs.declared.State.{State}
use Rattle.state.specs.State.{fresh_of, recorded_of, reread_of, received_of}
use Rattle.state.specs.Valid.{Good}

pub good-fresh : {t : List ℤ} → Valid t → Good (fresh_of t)
unfolding fresh_of
good-fresh v = record { table = v; result = record { above = omega arith; below = omega arith }; drive = off-number; driven = empty-numbers off-number }

-- the drive of a reading is a number
pub reading-number : (t : List ℤ) (b : Basis) → Number (present_of (reading_of t b).drive)
reading-number t b = drive-number (reading_of t b).drive (reading-drive t b)

pub good-reread : (s : State) → Valid s.table → Numbers s.live.driven → Good (reread_of s)
unfolding reread_of
good-reread s v n = record { table = v; result = result-within s.table s.live.basis; drive = reading-number s.table s.live.basis; driven = n }

pub good-received : (s : State) (w : ℕ) → Good s → Good (received_of s w)
unfolding received_of
good-received s w g = good-reread _ g.table g.driven

-- K6: with the record brought up to date
pub good-recorded : (s : State) → Good s → Good (recorded_of s)
good-recorded s g =
    record { table = g.table; result = g.result; drive = g.drive; driven = updated-numbers s.live.driven s.live.reading.drive g.driven g.drive }
