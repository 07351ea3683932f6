-- `sheet::cut` meets its contract: the number behind the word, or none.
use mathlib.Core.Path.{◌≡◌}
use Rattle.text.specs.PutLaws.{put-none}
use Rattle.text.specs.WordLaws.{others-of}
use Rattle.sheet.specs.Sheet.{number_behind, after_cut, cut_text}
use borrow.Author.Rules.{rules}
use Rattle.sheet.proofs.cut.Goals as goal

pub returns-in-Some : goal.returns-in-Some
unfolding after_cut cut_text
returns-in-Some c = let known = c in
    let n = known in
    let s = n in
    let e : n.natural-n.result ≡ number_behind s.args.line.now = rw (n.natural-n.ensures, n.only.ensures, n.rest.ensures, others-of s.args.line.now) in
    record {
      is = rw (← e, known.in-Some.is) c.with_given.ensures;
      text = rw (← e, known.in-Some.is) (put-none _ 0);
    }

pub returns-in-None : goal.returns-in-None
unfolding after_cut cut_text
returns-in-None c = let w = c in
    let known = w in
    let n = known in
    let s = n in
    let e : n.natural-n.result ≡ number_behind s.args.line.now = rw (n.natural-n.ensures, n.only.ensures, n.rest.ensures, others-of s.args.line.now) in
    record {
      is = rw (← e, known.in-None.is);
      text = rw (← e, known.in-None.is) w.wrong.ensures;
    }
