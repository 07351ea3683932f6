-- `poll_dialog::put_number` meets its contract: the word, and behind it the number and the newline.
use native.Mathlib.Omega.{arith}
use Rattle.text.specs.PutLaws.{put_both}
use Rattle.poll_dialog.proofs.put_number.Goals as goal

pub returns : goal.returns
returns c = put_both c.put_bytes-at.ensures (rw c.from.ensures at c.put_natural.ensures) (omega arith)
