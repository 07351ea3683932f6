-- `panel::on_tick` meets its contract: the pulses are used up, the record is brought up to date, and there are no marks.
use Rattle.panel.proofs.on_tick.Goals as goal

pub recorded-next-requires : goal.recorded-next-requires
recorded-next-requires c = rw c.with_switches.ensures c.requires

pub returns : goal.returns
returns c = let n = c in
    rw (c.recorded-next.ensures, n.with_switches.ensures, n.tick_all.ensures, c.no_halves.ensures)
