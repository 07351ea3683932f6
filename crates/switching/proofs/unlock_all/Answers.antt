-- `switching::unlock_all` meets its contract: the four, one by one.
use borrow.Author.Rules.{rules}
use mathlib.Core.Path.{◌≡◌}
use lib.ListN.{length}
use Rattle.switching.specs.EachLaws.{each-four}
use Rattle.switching.specs.Switching.{fresh_switch}
use Rattle.switching.proofs.unlock_all.Goals as goal

pub returns : goal.returns
returns c =
    let four : length c.args.ss ≡ 4 =
    search rules in
    let third = c in
    let second = third in
    let first = second in
    each-four _ first.args.ss fresh_switch (four) first.unlocked.ensures second.unlocked-2.ensures third.unlocked-3.ensures c.unlocked-4.ensures
