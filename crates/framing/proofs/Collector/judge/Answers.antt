-- `framing::Collector::judge` meets its contract: the tests are the definition's, on the bytes held.
use Rattle.framing.specs.Ends.{stops}
use Rattle.framing.specs.Collector.{judged}
use Rattle.framing.proofs.Collector.judge.Goals as goal
use Rattle.framing.proofs.Collector.judge.Goals.{then-request-2-via-then-request-2, then-request-2-via-else-request-2+then-whole_reply}

pub returns-then-request : goal.returns-then-request
unfolding judged stops
returns-then-request c = rw (← c.if-not-foreign.ensures, ← c.if-request.ensures)

pub returns-else-request : goal.returns-else-request
unfolding judged stops
returns-else-request c = rw (← c.if-not-foreign.ensures, ← c.if-request.ensures)

pub returns-then-request-2 : goal.returns-then-request-2
unfolding judged stops
returns-then-request-2 c =
    elim c.then-request-2.branch [
      | then-request-2-via-then-request-2 w ↦ rw (← c.if-not-foreign.ensures, ← w.if-request-2.ensures) c.empty.ensures
      | then-request-2-via-else-request-2+then-whole_reply w ↦ rw (← c.if-not-foreign.ensures, ← w.if-request-2.ensures, ← w.if-whole_reply.ensures) c.empty.ensures
    ]

pub returns-else-whole_reply : goal.returns-else-whole_reply
unfolding judged stops
returns-else-whole_reply c = rw (← c.if-not-foreign.ensures, ← c.if-request-2.ensures, ← c.if-whole_reply.ensures)
