-- `settings::action_of` meets its contract: each arm of the match is a test of the definition.
use borrow.Author.Tests.{ne_eqb}
use native.Mathlib.Omega.{arith}
use Rattle.settings.specs.Settings.{action_of}
use Rattle.settings.proofs.action_of.Goals as goal

pub returns-in-1 : goal.returns-in-1
unfolding action_of
returns-in-1 c = rw c.in-1.is

pub returns-in-2 : goal.returns-in-2
unfolding action_of
returns-in-2 c = rw c.in-2.is

pub returns-in-3 : goal.returns-in-3
unfolding action_of
returns-in-3 c = rw c.in-3.is

pub returns-in-4 : goal.returns-in-4
unfolding action_of
returns-in-4 c = rw c.in-4.is

pub returns-in-5 : goal.returns-in-5
unfolding action_of
returns-in-5 c = rw c.in-5.is

pub returns-in-6 : goal.returns-in-6
unfolding action_of
returns-in-6 c = rw c.in-6.is

pub returns-in-7 : goal.returns-in-7
unfolding action_of
returns-in-7 c = rw c.in-7.is

pub returns-in-8 : goal.returns-in-8
unfolding action_of
returns-in-8 c = rw c.in-8.is

pub returns-in_default : goal.returns-in_default
unfolding action_of
returns-in_default c =
    rw (ne_eqb c.args.n 1 (λ e. omega (arith, e)), ne_eqb c.args.n 2 (λ e. omega (arith, e)), ne_eqb c.args.n 3 (λ e. omega (arith, e)), ne_eqb c.args.n 4 (λ e. omega (arith, e)), ne_eqb c.args.n 5 (λ e. omega (arith, e)), ne_eqb c.args.n 6 (λ e. omega (arith, e)), ne_eqb c.args.n 7 (λ e. omega (arith, e)), ne_eqb c.args.n 8 (λ e. omega (arith, e)))
