-- `panel::begin` meets its contract: the event's own function answers.
use Rattle.panel.specs.Step.{on_tick, step_of}
use Rattle.panel.proofs.begin.Goals as goal

pub on_tick-requires : goal.on_tick-requires
on_tick-requires c = let g = c.requires in (g.driven, g.drive)

pub returns-in-Telegram : goal.returns-in-Telegram
unfolding step_of
returns-in-Telegram c = rw c.in-Telegram.is c.on_telegram.ensures

pub returns-in-Levels : goal.returns-in-Levels
unfolding step_of
returns-in-Levels c = rw c.in-Levels.is c.on_levels.ensures

pub returns-in-Tick : goal.returns-in-Tick
unfolding on_tick step_of
returns-in-Tick c = rw (c.in-Tick.is, c.on_tick.ensures)
