-- `registers::answer` meets its contract: what the frame asks is done, and a valid state stays valid.
use Rattle.registers.specs.Serve.{served_of}
use Rattle.registers.proofs.ServeLaws.{promised}
use Rattle.state.specs.State.{state_of}
use Rattle.registers.proofs.answer.Goals as goal

pub returns : goal.returns
unfolding served_of
returns c =
    let p = promised c.args.node (state_of c.args.t.now c.args.l) c.args.frame.now _ c.requires (rw c.asked-d.ensures at c.request.ensures) in
    record {
      is = p.0;
      valid = p.1.0;
      fits = p.1.1;
    }
