-- `sheet::heading` meets its contract: the line and a newline, and the defaults.
use native.Mathlib.Omega.{arith}
use Rattle.text.specs.PutLaws.{put_both}
use borrow.Author.Rules.{rules}
use Rattle.sheet.proofs.heading.Goals as goal

pub returns : goal.returns
returns c = record {
  is = rw c.defaults.ensures;
  text = put_both c.put_bytes-p1.ensures c.put_bytes-end.ensures (omega arith);
}
