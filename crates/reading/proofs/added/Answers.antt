-- `reading::added` meets its contract: the worth of each mark, added.
use mathlib.Core.Bool.{Bool, true, false}
use Prim.Native.Nat.{ℕ, ◌≤◌}
use native.Mathlib.Omega.{arith}
use Rattle.reading.specs.Reading.{mark}
use Rattle.reading.proofs.added.Goals as goal

-- a mark is at most its worth
most : (half : Bool) (worth : ℕ) → mark half worth ≤ worth
most true worth = omega arith
most false worth = omega arith

pub overflow_add-result : goal.overflow_add-result
overflow_add-result c = let h = c.args in
    record { fits = rw (c.mark.ensures, c.mark-2.ensures) (omega (arith, most h.scaling 1, most h.linearization 2)) }

pub overflow_add-result-2 : goal.overflow_add-result-2
overflow_add-result-2 c = let h = c.args in
    record { fits = rw (c.mark.ensures, c.mark-2.ensures, c.mark-3.ensures) (omega (arith, most h.scaling 1, most h.linearization 2, most h.analog 4)) }

pub returns : goal.returns
returns c = rw (c.mark.ensures, c.mark-2.ensures, c.mark-3.ensures)
