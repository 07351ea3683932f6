-- `sheet::build` meets its contract: the answer stands behind its word.
use native.Mathlib.Omega.{arith}
use Rattle.text.specs.PutLaws.{put_both}
use Rattle.sheet.specs.Sheet.{build_text}
use borrow.Author.Rules.{rules}
use Rattle.sheet.proofs.build.Goals as goal

pub returns : goal.returns
unfolding build_text
returns c = rw (← c.build-b.ensures, ← c.number_told.ensures) (put_both c.put_bytes-p1.ensures c.put_numbers.ensures (omega arith))
