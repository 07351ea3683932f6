-- `logrun::take` meets its contract: behind a refusal nothing happens, and else what the log's word gives picks the case.
use mathlib.Core.Path.{◌≡◌, sym, ap, ◌∙◌}
use mathlib.Core.Bool.{true, false, not}
use Rattle.std.specs.Prelude.{Ok, Some, None}
use Rattle.text.specs.PutLaws.{put-none}
use Rattle.logrun.specs.Progress.{running, progress_of, after_taken, text_taken}
use Rattle.logrun.specs.ProgressLaws.{word-ready, fed-ended, text-ended, fed_by, text-by}
use Rattle.logrun.proofs.take.Goals as goal

pub returns-then-is_some : goal.returns-then-is_some
returns-then-is_some c =
    let p = progress_of c.args.t.now c.args.c in
    let e : running p ≡ false = ap not (sym c.is_some.ensures ∙ c.if-is_some.true) in
    record {
      is = (rw (fed-ended p c.args.w e));
      text = rw (text-ended p c.args.w e) (put-none c.args.out.now c.args.at);
      ready = c.requires.0;
    }

pub returns-in-Ok-Some : goal.returns-in-Ok-Some
returns-in-Ok-Some c =
    let p = progress_of c.args.t.now c.args.c in
    let w = c.args.w in
    let s = c.take-s in
    let e : running p ≡ true = ap not (sym c.is_some.ensures ∙ c.if-is_some.false) in
    let given : s.result.taken ≡ Ok (Some c.in-Ok-Some.e) = rw (rw c.in-Ok-Some.is at c.in-Ok-Some.field-0-is) at c.in-Ok-Some.is in
    let f = fed_by p w s.result _ e s.ensures given in
    let g = text-by p w s.result _ e s.ensures given in
    let v = c.event.ensures in
    record {
      is = rw f v.is;
      text = rw g v.text;
      ready = rw (v.is, ← f) (word-ready c.requires.0 w);
    }

pub returns-in-Ok-None : goal.returns-in-Ok-None
unfolding after_taken text_taken
returns-in-Ok-None c =
    let p = progress_of c.args.t.now c.args.c in
    let w = c.args.w in
    let s = c.take-s in
    let e : running p ≡ true = ap not (sym c.is_some.ensures ∙ c.if-is_some.false) in
    let none : s.result.taken ≡ Ok None = rw (rw c.in-Ok-None.is at c.in-Ok-None.field-0-is) at c.in-Ok-None.is in
    let f = fed_by p w s.result _ e s.ensures none in
    let g = text-by p w s.result _ e s.ensures none in
    record {
      is = (rw (f, c.quiet.ensures));
      text = rw (g, c.quiet.ensures) (put-none c.args.out.now c.args.at);
      ready = rw c.quiet.ensures (record { state = c.requires.0.state; count = c.requires.0.count });
    }

pub returns-in-Err : goal.returns-in-Err
unfolding after_taken text_taken
returns-in-Err c =
    let p = progress_of c.args.t.now c.args.c in
    let w = c.args.w in
    let s = c.take-s in
    let e : running p ≡ true = ap not (sym c.is_some.ensures ∙ c.if-is_some.false) in
    let f = fed_by p w s.result _ e s.ensures c.in-Err.is in
    let g = text-by p w s.result _ e s.ensures c.in-Err.is in
    record {
      is = (rw (f, c.quiet-in-Err.ensures));
      text = rw (g, c.quiet-in-Err.ensures) (put-none c.args.out.now c.args.at);
      ready = rw c.quiet-in-Err.ensures (record { state = c.requires.0.state; count = c.requires.0.count });
    }
