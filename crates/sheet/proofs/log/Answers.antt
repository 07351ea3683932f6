-- `sheet::log` meets its contract: the words of the line are the piece, if they are a log.
use mathlib.Core.Path.{◌≡◌, sym, ◌∙◌}
use mathlib.Core.Bool.{true}
use native.Mathlib.Omega.{arith}
use lib.ListN.{length}
use lib.Seq.{length-take-le}
use Rattle.text.specs.PutLaws.{put_front}
use Rattle.text.specs.WordLaws.{others-of}
use Rattle.sheet.specs.LogWordLaws.{log-fits}
use Rattle.sheet.specs.Sheet.{after_log, log_text}
use borrow.Author.Rules.{rules}
use Rattle.sheet.proofs.log.Goals as goal

pub put_log-n-requires : goal.put_log-n-requires
put_log-n-requires c = (search rules, sym c.is_log.ensures ∙ c.if-is_log.true)

pub slice_bounds-bytes-end : goal.slice_bounds-bytes-end
slice_bounds-bytes-end c = let p = c in
    omega (arith, p.put_log-n.ensures.ends, log-fits _ (sym p.is_log.ensures ∙ p.if-is_log.true))

pub piece-requires : goal.piece-requires
piece-requires c = let p = c in
    let fits = log-fits _ (sym p.is_log.ensures ∙ p.if-is_log.true) in
    rw (put_front p.put_log-n.ensures (omega arith)) (p.requires.0, omega arith)

pub returns-then-is_log : goal.returns-then-is_log
unfolding after_log log_text
returns-then-is_log c = let x = c in
    let p = x in
    let is = p.is_log.ensures in
    let fits = log-fits _ (sym is ∙ p.if-is_log.true) in
    let front = put_front p.put_log-n.ensures (omega arith) in
    let line = p.args.line.now in
    record {
      is = rw (others-of line, ← p.rest-t.ensures, ← is, p.if-is_log.true) (rw front at x.piece.ensures.is);
      text = rw (others-of line, ← p.rest-t.ensures, ← is, p.if-is_log.true) (rw front at x.piece.ensures.text);
    }

pub returns : goal.returns
unfolding after_log log_text
returns c = let w = c in
    let test = w in
    let line = w.args.line.now in
    record {
      is = rw (others-of line, ← test.rest-t.ensures, ← test.is_log.ensures, test.if-is_log.false);
      text = rw (others-of line, ← test.rest-t.ensures, ← test.is_log.ensures, test.if-is_log.false) w.wrong-end.ensures;
    }
