-- `framing::Collector::feed` meets its contract: each turn takes a byte, up to the end of a frame; behind the last byte nothing is left to feed.
use Rattle.std.proofs.Common.{◌≡◌, ◌≤◌, refl, sym, ◌∙◌, ap, arith, length, drop_of_length-le}
use Rattle.framing.specs.Collector.{fed_by, fed_to}
use Rattle.framing.proofs.PieceLaws.{fed-next}
use Rattle.framing.proofs.Collector.feed.Goals as goal

pub loop-i-init : goal.loop-i-init
loop-i-init c = record { rest = refl; within = omega arith }

pub returns-then-self : goal.returns-then-self
returns-then-self c =
    let l = c.loop-i in
    sym (l.invariant.rest ∙ fed-next c.args.node l.self c.args.bytes.now l.i (omega arith) ∙ rw (← c.push.ensures, c.if-self.true))

pub loop-i-preserved : goal.loop-i-preserved
loop-i-preserved c =
    let l = c.loop-i in
    record {
      rest = l.invariant.rest ∙ fed-next c.args.node l.self c.args.bytes.now l.i (omega arith) ∙ rw (← c.push.ensures, c.if-self.false);
      within = omega arith;
    }

pub returns : goal.returns
unfolding fed_to
returns c =
    let l = c.loop-i in
    let bytes = c.args.bytes.now in
    let done : length bytes ≤ l.i = omega arith in
    let place : c.max.result ≡ l.i = omega (arith, c.max.ensures) in
    ap (fed_by l.self) place ∙ sym (rw (drop_of_length-le bytes done) at l.invariant.rest)
