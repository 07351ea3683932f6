-- `talk::run` meets its contract: the bytes read so far lead from the first state to here, and the state stays valid.
use Rattle.talk.proofs.EndLaws.{heard-nothing, heard-more}
use Rattle.talk.proofs.run.Goals as goal

pub loop-init : goal.loop-init
loop-init g c = (c.fresh.ensures.ready, heard-nothing g.D.Dialog.after _ _ _ (rw (c.fresh.ensures.is, c.fresh-2.ensures)))

pub loop-preserved : goal.loop-preserved
loop-preserved g c = (c.in-Some.ensures.ready, heard-more g.D.Dialog.after _ _ _ _ _ _ c.loop.invariant.1 c.in-Some.ensures.is)
