-- `settings::config_of` meets its contract: each arm of the match is a test of the definition.
use borrow.Author.Tests.{ne_eqb}
use native.Mathlib.Omega.{arith}
use Rattle.settings.specs.Settings.{config_of}
use Rattle.settings.proofs.config_of.Goals as goal

pub returns-in-0 : goal.returns-in-0
unfolding config_of
returns-in-0 c = rw c.in-0.is

pub returns-in-1 : goal.returns-in-1
unfolding config_of
returns-in-1 c = rw c.in-1.is

pub returns-in-2 : goal.returns-in-2
unfolding config_of
returns-in-2 c = rw c.in-2.is

pub returns-in_default : goal.returns-in_default
unfolding config_of
returns-in_default c =
    rw (ne_eqb c.args.n 0 (λ e. omega (arith, e)), ne_eqb c.args.n 1 (λ e. omega (arith, e)), ne_eqb c.args.n 2 (λ e. omega (arith, e)))
