-- `poll_dialog::put_choice` meets its contract: an address, or `none`.
use Rattle.text.specs.Plain.{spoken}
use Rattle.poll_dialog.specs.Dialog.{choice_line}
use Rattle.poll_dialog.proofs.put_choice.Goals as goal

pub returns-in-Some : goal.returns-in-Some
unfolding choice_line spoken
returns-in-Some c = rw c.in-Some.is c.put_number.ensures

pub returns-in-None : goal.returns-in-None
unfolding choice_line spoken
returns-in-None c = rw c.in-None.is c.put_bytes.ensures
