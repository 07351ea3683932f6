-- `sheet::event` meets its contract: the panel steps and its line is put.
use mathlib.Core.Path.{◌∙◌}
use native.Mathlib.Omega.{arith}
use Rattle.lines.specs.CountLaws.{next_count-range}
use Rattle.sheet.specs.SheetLaws.{event-done, event-told}
use borrow.Author.Rules.{rules}
use Rattle.sheet.proofs.event.Goals as goal

pub event_line-end-requires : goal.event_line-end-requires
event_line-end-requires c = let n = c in
    let s = c in
    (omega arith, rw n.next_count-count.ensures (next_count-range s.args.s.progress.count s.requires.0.count))

pub returns : goal.returns
returns c = let line = c in
    let n = line in
    let a = n in
    let s = a in
    record {
      is = c.with_run-sheet.ensures ∙ rw n.next_count-count.ensures (event-done s.args.s _ _ a.advance-o.result a.advance-o.ensures.is);
      text = rw (n.next_count-count.ensures, event-told s.args.s _ _ a.advance-o.ensures.is) at line.event_line-end.ensures;
    }
