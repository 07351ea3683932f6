-- `inputs::acts_on` meets its contract: a rise or a fall, by the config.
use Rattle.inputs.specs.Levels.{acts_on}
use Rattle.inputs.proofs.acts_on.Goals as goal

pub returns-then-on_rise : goal.returns-then-on_rise
unfolding acts_on
returns-then-on_rise c = rw (← c.on_rise.ensures, c.if-on_rise.true)

pub returns : goal.returns
unfolding acts_on
returns c = rw (← c.on_rise.ensures, c.if-on_rise.false)
