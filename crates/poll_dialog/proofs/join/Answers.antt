-- `poll_dialog::join` meets its contract: what `register` answers is told.
use Rattle.dispatcher.specs.Dispatch.{Answer, number_of}
use Rattle.std.proofs.Common.{ap, sym}
use Rattle.text.specs.Plain.{spoken}
use Rattle.poll_dialog.specs.Dialog.{join_text}
use Rattle.poll_dialog.proofs.join.Goals as goal

pub returns-clause-text : goal.returns-clause-text
unfolding join_text spoken
returns-clause-text c = rw (ap (λ (r : Answer). number_of r.1) (sym c.register.ensures), ← c.number_of-n.ensures) c.put_number.ensures
