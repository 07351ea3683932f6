-- `measurement::highest` meets its contract. The loop's invariant: the search among the points that are left finds what the search among all n does.
use mathlib.Core.Path.{◌≡◌}
use Rattle.measurement.specs.Curve.{highest_of}
use Rattle.measurement.proofs.highest.Given as goal

abbrev pub invariant-loop-i : goal.invariant-loop-i
invariant-loop-i l = highest_of l.points l.i l.v ≡ highest_of l.points l.n l.v
