-- `registers::start` meets its contract: a node address leads to the load, another to 33.
use Rattle.std.proofs.Common.{◌≡◌, rules, tests}
use Rattle.std.specs.Option.{option_map}
use Rattle.state.proofs.ValidLaws.{good-fresh}
use Rattle.parameters.proofs.ValidLaws.{defaults-valid}
use Rattle.registers.specs.declared.StartRefusal.TheVariants.{Table}
use Rattle.registers.specs.Start.{started_of}
use Rattle.registers.proofs.start.Goals as goal

pub returns-then-is_node : goal.returns-then-is_node
unfolding started_of
returns-then-is_node c =
    let by_table : c.map.result ≡ option_map Table c.load-l.result.refusal = search (rules, tests) in
    record { is = rw (← c.is_node.ensures, c.if-is_node.true, by_table, c.load-l.ensures.is); valid = c.load-l.ensures.valid }

pub returns : goal.returns
unfolding started_of
returns c =
    record {
      is = rw (← c.is_node.ensures, c.if-is_node.false, c.fresh.ensures, c.defaults.ensures);
      valid = rw (c.fresh.ensures, c.defaults.ensures) (good-fresh defaults-valid);
    }
