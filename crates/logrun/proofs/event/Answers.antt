-- `logrun::event` meets its contract: the panel's step and its line are those of the definition.
use native.Mathlib.Omega.{arith}
use Rattle.panel.specs.Step.{answer_of}
use Rattle.logrun.specs.Progress.{after_taken, text_taken}
use Rattle.lines.specs.CountLaws.{next_count-range}
use Rattle.logrun.proofs.event.Goals as goal

pub event_line-end-requires : goal.event_line-end-requires
event_line-end-requires c = let n = c in
    let start = n in
    (omega arith, rw n.next_count-count.ensures (next_count-range start.args.c.count start.requires.0.count))

pub returns : goal.returns
unfolding after_taken text_taken answer_of
returns c = let s = c.advance-o.ensures.is in
    let n = c.next_count-count.ensures in
    record {
      is = (rw (n, ← s));
      text = rw (n, s) at c.event_line-end.ensures;
    }
