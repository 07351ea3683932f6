-- `poll_dialog::report` meets its contract: what `report` of the dispatcher answers is told.
use Rattle.dispatcher.specs.Dispatch.{Answer, number_of}
use Rattle.std.proofs.Common.{ap, sym}
use Rattle.text.specs.Plain.{spoken}
use Rattle.poll_dialog.specs.Dialog.{report_text}
use Rattle.poll_dialog.proofs.report.Goals as goal

pub returns-clause-text : goal.returns-clause-text
unfolding report_text spoken
returns-clause-text c = rw (ap (λ (r : Answer). number_of r.1) (sym c.report.ensures), ← c.number_of-n.ensures) c.put_number.ensures
