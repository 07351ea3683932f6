-- What was read before and what is read now are the front of the buffer.
use Rattle.std.proofs.Common.{rules, subst}
use Rattle.std.specs.Io.KnownBytes.{Consumes}
use Rattle.std.proofs.KnownBytes.{Consumes-trans}
use Rattle.ports.proofs.Known.{front_of_put}
use Rattle.ports.proofs.read_full.Goals as goal

pub loop-done-preserved : goal.loop-done-preserved
loop-done-preserved g c =
    let joined = front_of_put c.loop-done.done _ c.read_some-n.result c.loop-done.buf c.read_some-n.new.buf c.loop-done.invariant.1 c.read_some-n.ensures.bound in
    (search rules, search rules, subst (Consumes _ _) joined (Consumes-trans _ _ _ _ _ c.loop-done.invariant.2 c.read_some-n.ensures.bytes))
