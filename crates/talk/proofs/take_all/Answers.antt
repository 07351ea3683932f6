-- `talk::take_all` meets its contract: the bytes that are left lead from here to where all lead from the start.
use Rattle.std.proofs.Common.{◌≡◌, ◌+◌, length, drop, sym, ap, ◌∙◌, arith}
use Rattle.script.specs.Collector.{most, collected}
use Rattle.script.specs.Talk.{talked_all}
use Rattle.script.proofs.TalkLaws.{talked-by, talked-more, talked-end}
use Rattle.talk.proofs.take_all.Goals as goal

pub loop-b-preserved : goal.loop-b-preserved
loop-b-preserved g c =
    let after = g.D.Dialog.after in
    let l = c.loop-b in
    let bytes = c.args.bytes.now in
    let whole : length c.push-x.new.bytes ≡ most = omega (arith, c.push-x.auto.bytes, l.invariant.2) in
    let one = talked-by after l.s c.take.new.s (collected l.held l.x) (collected c.push-x.new.bytes c.push-x.result) _ c.push-x.ensures c.take.ensures.is in (
      c.take.ensures.ready,
      omega (arith, c.loop-b-test.true),
      whole,
      l.invariant.3 ∙ talked-more after (l.s, collected l.held l.x) bytes l.b-index c.loop-b-test.true ∙ ap (λ t. talked_all after t (drop (l.b-index + 1) bytes)) (sym one),
    )

pub returns-clause-is : goal.returns-clause-is
returns-clause-is g c =
    let all = rw c.extent_of-x.ensures at c.loop-b.invariant.3 in
    rw c.kept.ensures (sym (all ∙ talked-end g.D.Dialog.after _ _ _ c.loop-b-test.false))
