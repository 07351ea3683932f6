-- `reading::count_after` meets its contract: counted on where there is a count, else started.
use mathlib.Core.Path.{◌≡◌}
use mathlib.Core.Bool.{true, false}
use Rattle.reading.specs.Follow.{count_after}
use Rattle.reading.proofs.count_after.Goals as goal

pub returns-then-b : goal.returns-then-b
unfolding count_after
returns-then-b c = let b = c in
    let e : b.args.b.counted ≡ true = b.if-b.true in
    rw e c.counted.ensures

pub returns : goal.returns
unfolding count_after
returns c = let b = c in
    let e : b.args.b.counted ≡ false = b.if-b.false in
    rw e c.first.ensures
