-- `sheet::extremes` meets its contract: the answer stands behind its word.
use mathlib.Core.Path.{◌≡◌}
use native.Mathlib.Omega.{arith}
use mir.Syntax.{w32}
use Rattle.integers.specs.IntLaws.{bk}
use Rattle.text.specs.PutLaws.{put_both}
use Rattle.sheet.specs.Sheet.{extremes_text}
use borrow.Author.Rules.{rules}
use Rattle.sheet.proofs.extremes.Goals as goal

pub returns : goal.returns
unfolding extremes_text
returns c = let x = c.args.x in
    let least : bk w32 x.least ≡ x.least = search rules in
    let greatest : bk w32 x.greatest ≡ x.greatest = search rules in
    put_both c.put_bytes-p1.ensures (rw (least, greatest) at c.put_results.ensures) (omega arith)
