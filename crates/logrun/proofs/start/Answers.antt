-- `logrun::start` meets its contract: no half waits, no event is counted, and the state is good.
use native.Mathlib.Omega.{arith}
use Rattle.logrun.proofs.start.Goals as goal

pub returns : goal.returns
returns c = record {
  is = rw c.fresh.ensures;
  ready = record { state = c.requires; count = omega arith };
}
