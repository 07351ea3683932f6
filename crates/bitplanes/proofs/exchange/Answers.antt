-- `bitplanes::exchange` meets its contract: the loop's invariant: the words of the first p pairs are exchanged, the others are as they were.
use borrow.Author.Rules.{rules}
use native.Mathlib.Omega.{arith}
use Rattle.bitplanes.proofs.LoopLaws.{Part, part_none, part-more, part-all}
use mathlib.Core.Path.{◌≡◌, subst}
use Prim.Native.Nat.{ℕ}
use Rattle.bitplanes.proofs.exchange.Goals as goal

pub loop-p-init : goal.loop-p-init
loop-p-init c = (search rules, part_none _ _)

pub loop-p-preserved : goal.loop-p-preserved
loop-p-preserved c = (
  search rules,
  part-more c.args.w c.loop-p.p c.first-k.result c.args.g.now c.loop-p.g c.lower.result c.upper.result
      c.requires.width (omega arith) c.loop-p.invariant.0 c.first-k.ensures c.lower.ensures c.upper.ensures c.loop-p.invariant.1,
)

pub returns : goal.returns
returns c =
    let e : c.loop-p.p ≡ 16 = omega arith in
    part-all c.args.w c.args.g.now c.loop-p.g c.requires.width c.loop-p.invariant.0
    (subst (λ (n : ℕ). Part c.args.w c.args.g.now c.loop-p.g n) e c.loop-p.invariant.1)
