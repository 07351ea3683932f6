-- `panel::load` meets its contract: whatever is loaded, the table is valid, and its fresh state too.
use Rattle.parameters.proofs.ValidLaws.{load-valid}
use Rattle.panel.specs.Load.{loaded_of}
use Rattle.state.proofs.ValidLaws.{good-fresh}
use Rattle.panel.proofs.load.Goals as goal

pub returns : goal.returns
unfolding loaded_of
returns c = let l = c.load-l in
    record {
      is = rw (c.fresh-s.ensures, l.ensures);
      valid = rw (c.fresh-s.ensures, l.ensures) (good-fresh (load-valid c.args.words.now));
    }
