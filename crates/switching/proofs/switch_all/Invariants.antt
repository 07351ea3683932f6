-- `switching::switch_all` meets its contract. The invariant: the switches below k are switched, the others as they were (`done_to`).
use mathlib.Core.Path.{◌≡◌}
use lib.ListN.{length}
use Rattle.switching.specs.Switching.{switched_at}
use Rattle.switching.specs.Each.{each_from}
use Rattle.switching.specs.EachLaws.{done_to}
use Rattle.switching.proofs.switch_all.Given as goal

abbrev pub invariant-loop-k : goal.invariant-loop-k
invariant-loop-k l = (length l.next ≡ 4) × (each_from 0 (switched_at l.ps l.r) l.initial.next ≡ done_to (switched_at l.ps l.r) l.next l.k)
