-- `talk::take_all` meets its contract: the bytes that are left lead from here to where all lead from the start, and each leaves the dialog valid and the buffer whole.
use Rattle.std.proofs.Common.{◌≡◌, ◌≤◌, length, drop}
use Rattle.script.specs.Collector.{most, collected}
use Rattle.script.specs.Talk.{talked_all}
use Rattle.talk.proofs.take_all.Given as goal

abbrev pub invariant-loop-b : goal.invariant-loop-b
invariant-loop-b g l =
    let after = g.D.Dialog.after in
    g.D.Dialog.Ready l.s × (l.b-index ≤ length l.bytes) × (length l.held ≡ most) × (talked_all after (l.initial.s, collected l.initial.held l.initial.x) l.bytes ≡ talked_all after (l.s, collected l.held l.x) (drop l.b-index l.bytes))
