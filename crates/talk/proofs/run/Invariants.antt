-- `talk::run` meets its contract: the bytes read so far lead from the first state to here, and the state stays valid.
use Rattle.script.specs.Collector.{fresh_collector}
use Rattle.talk.specs.Ends.{Heard}
use Rattle.talk.proofs.run.Given as goal

abbrev pub invariant-loop : goal.invariant-loop
invariant-loop g l =
    let d = g.D.Dialog in
    d.Ready l.t.state × Heard d.after (g.R.Read.remaining l.initial.input) (g.R.Read.remaining l.input) (d.first, fresh_collector) (l.t.state, l.t.collector)
