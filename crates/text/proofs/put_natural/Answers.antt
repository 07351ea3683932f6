-- `text::put_natural` meets its contract: the number is its own signed word.
use native.Mathlib.Omega.{arith}
use mir.Syntax.{w64}
use mir.Facts.{to_z_pos}
use Rattle.text.proofs.put_natural.Goals as goal

pub put_number-requires : goal.put_number-requires
put_number-requires c = (omega arith, rw (to_z_pos w64 {n = c.args.n} (omega arith)) (record { above = omega arith; below = omega arith }))

pub returns : goal.returns
returns c = rw (to_z_pos w64 {n = c.args.n} (omega arith)) at c.put_number.ensures
