-- `sheet::piece` meets its contract: the run takes the piece, where there is one.
use mathlib.Core.Path.{◌∙◌}
use borrow.Author.Tests.{not-true, not-false}
use Rattle.text.specs.PutLaws.{put-none}
use Rattle.sheet.specs.Sheet.{after_piece, piece_of}
use borrow.Author.Rules.{rules}
use Rattle.sheet.proofs.piece.Goals as goal

pub returns-then-not-s : goal.returns-then-not-s
unfolding after_piece piece_of
returns-then-not-s c = let off = not-true c.args.s.running c.if-not-s.true in
    record {
      is = rw off;
      text = rw off (put-none _ 0);
    }

pub returns : goal.returns
unfolding after_piece piece_of
returns c = let r = c.run_piece-r.ensures in
    let on = not-false c.args.s.running c.if-not-s.false in
    record {
      is = c.with_run-sheet.ensures ∙ rw (on, r.is, r.goes);
      text = rw on r.text;
    }
