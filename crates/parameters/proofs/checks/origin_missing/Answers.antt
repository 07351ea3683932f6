-- The tests are the definition's own, on the number and the words read.
use Rattle.std.proofs.Common.{eq-eqb, ne_eqb}
use Rattle.parameters.specs.Load.{origin_missing}
use Rattle.parameters.proofs.LoadLaws.{bits-zero, not-both}
use Rattle.parameters.proofs.checks.origin_missing.Goals as goal

pub returns-then-natural-ne1 : goal.returns-then-natural-ne1
unfolding origin_missing
returns-then-natural-ne1 c = rw (← c.natural.ensures, ne_eqb _ _ c.if-natural-ne1.true)

pub returns : goal.returns
unfolding origin_missing
returns c =
    let x = c.word in
    let y = c.word-2 in
    rw (← c.natural.ensures, eq-eqb _ _ c.if-natural-ne1.false, bits-zero (record { sfits = x.type_inv }), bits-zero (record { sfits = y.type_inv }), x.ensures, y.ensures) (not-both _ _)
