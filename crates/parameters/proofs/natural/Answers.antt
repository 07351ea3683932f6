-- The element read is the slot's word.
use lib.ListN.{get_or}
use lib.IntN.{pos}
use mir.Syntax.{w32}
use Rattle.integers.specs.IntLaws.{back_at}
use Rattle.parameters.proofs.natural.Goals as goal

pub returns : goal.returns
returns c = let a = c.args in
    rw (c.unsigned.ensures, back_at w32 (get_or a.t.now a.slot (pos 0)) c.unsigned-arg-1.given)
