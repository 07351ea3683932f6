-- `switching::switch_all` meets its contract. The invariant: the switches below k are switched, the others as they were (`done_to`).
use mathlib.Core.Path.{sym, ◌∙◌}
use native.Mathlib.Omega.{arith}
use borrow.Author.Rules.{rules}
use lib.ListN.{length-set}
use mir.Syntax.{w32}
use mir.Facts.{to_z-of_z}
use Rattle.switching.specs.Switching.{fresh_switch}
use Rattle.switching.specs.EachLaws.{each_start, each_more, each-end}
use Rattle.switching.proofs.switch_all.Goals as goal

pub loop-k-init : goal.loop-k-init
loop-k-init c = (search rules, each_start _ _)

pub offset_bounds-next-k : goal.offset_bounds-next-k
offset_bounds-next-k c = omega arith

pub bounds-next-k : goal.bounds-next-k
bounds-next-k c = omega arith

pub switched_at-q-requires : goal.switched_at-q-requires
switched_at-q-requires c = omega arith

pub offset_bounds-next-k-in-loop-k : goal.offset_bounds-next-k-in-loop-k
offset_bounds-next-k-in-loop-k c = omega arith

pub bounds-next-k-in-loop-k : goal.bounds-next-k-in-loop-k
bounds-next-k-in-loop-k c = omega arith

pub loop-k-preserved : goal.loop-k-preserved
loop-k-preserved c = let l = c.loop-k in (
  length-set l.next l.k c.switched_at-q.result ∙ l.invariant.0,
  l.invariant.1 ∙ each_more _ l.next l.k fresh_switch c.switched_at-q.result (omega arith) c.switched_at-q.ensures,
)

pub returns : goal.returns
returns c = let l = c.loop-k in
    rw (← to_z-of_z {w = w32} c.ranges.r) (sym (l.invariant.1 ∙ each-end _ l.next l.k (omega arith)))
