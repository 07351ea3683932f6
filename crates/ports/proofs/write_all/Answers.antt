-- What was written before and what is written now are the front of the bytes.
use Rattle.std.proofs.Common.{rules, subst}
use Rattle.std.specs.Io.KnownBytes.{Appends}
use Rattle.std.proofs.KnownBytes.{Appends-trans}
use Rattle.ports.proofs.Known.{front_of_rest}
use Rattle.ports.proofs.write_all.Goals as goal

pub loop-done-preserved : goal.loop-done-preserved
loop-done-preserved g c =
    (search rules, subst (Appends _ _) (front_of_rest c.loop-done.done c.write_some-n.result c.args.bytes.now) (Appends-trans _ _ _ _ _ c.loop-done.invariant.1 c.write_some-n.ensures.bytes))
