-- `runs::event_of` meets its contract by its tests.
use borrow.Author.Tests.{eq-eqb, ne_eqb}
use native.Mathlib.Omega.{arith}
use Prim.Native.Nat.{◌/◌}
use Rattle.runs.specs.Words.{event_of}
use Rattle.runs.proofs.event_of.Goals as goal

pub returns-in-0 : goal.returns-in-0
unfolding event_of
returns-in-0 c = rw (eq-eqb _ _ c.in-0.is)

pub returns-in-1 : goal.returns-in-1
unfolding event_of
returns-in-1 c = rw c.in-1.is

pub returns-in_default : goal.returns-in_default
unfolding event_of
returns-in_default c = let kind = c.args.w / 4294967296 in
    rw (ne_eqb kind 0 (λ e. omega arith), ne_eqb kind 1 (λ e. omega arith))
