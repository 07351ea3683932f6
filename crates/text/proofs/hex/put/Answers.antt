-- `text::hex::put` meets its contract: nothing, or the first byte and then the others.
use native.Mathlib.Omega.{arith}
use Rattle.text.specs.Hex.{hex_text}
use Rattle.text.specs.PutLaws.{put-none, put_both}
use Rattle.text.proofs.HexLaws.{text-none}
use Rattle.text.proofs.hex.put.Goals as goal

pub returns-in_default : goal.returns-in_default
returns-in_default c = rw (text-none _ c.in_default.ensures.cases) (put-none _ _)

pub returns : goal.returns
unfolding hex_text
returns c = rw c.in-Some.ensures.cases.0 (put_both c.put_pair-p.ensures c.put_rest.ensures (omega (arith, c.in-Some.ensures.cases.1)))
