-- `script::collector::push` meets its contract: a newline, a byte with room, or one without.
use mathlib.Core.Path.{◌≡◌}
use mathlib.Core.Bool.{true}
use lib.Dec.{eqb}
use borrow.Author.Tests.{lt-ltb, le-ltb, eq-eqb, ne_eqb}
use Rattle.text.specs.Marks.{newline}
use Rattle.script.specs.Collector.{pushed_on}
use Rattle.script.proofs.CollectorLaws.{begun-renews}
use Rattle.script.proofs.collector.push.Goals as goal

pub returns-then-b-eq10 : goal.returns-then-b-eq10
unfolding pushed_on
returns-then-b-eq10 c = let ends : eqb c.args.b newline ≡ true = eq-eqb _ _ c.if-b-eq10.true in
    rw (← begun-renews _ _, ← c.renew-y.ensures, ends)

pub returns-then-n-lt-MOST : goal.returns-then-n-lt-MOST
unfolding pushed_on
returns-then-n-lt-MOST c = rw (← begun-renews _ _, ← c.renew-y.ensures, ne_eqb _ _ c.if-b-eq10.false, lt-ltb _ _ c.if-n-lt-MOST.true)

pub returns : goal.returns
unfolding pushed_on
returns c = rw (← begun-renews _ _, ← c.renew-y.ensures, ne_eqb _ _ c.if-b-eq10.false, le-ltb _ _ c.if-n-lt-MOST.false)
