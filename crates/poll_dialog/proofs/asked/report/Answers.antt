-- `poll_dialog::asked::report` meets its contract: the first word is an address and the only other one 0 or 1, or not.
use Rattle.text.specs.WordLaws.{first-of, others-of}
use Rattle.poll_dialog.specs.Asked.{report_in}
use Rattle.poll_dialog.proofs.asked.report.Goals as goal

pub returns-in-Some-Some : goal.returns-in-Some-Some
unfolding report_in
returns-in-Some-Some c =
    rw (first-of _, ← c.word.ensures, ← c.natural-n.ensures, c.in-Some-Some.is-0, others-of _, ← c.rest.ensures, ← c.only.ensures, ← c.natural-v.ensures, c.in-Some-Some.is-1)

pub returns-in_default : goal.returns-in_default
unfolding report_in
returns-in_default c =
    rw (first-of _, ← c.word.ensures, ← c.natural-n.ensures, c.in_default.is-0, others-of _, ← c.rest.ensures, ← c.only.ensures, ← c.natural-v.ensures, c.in_default.is-1)

pub returns-in_default-2 : goal.returns-in_default-2
unfolding report_in
returns-in_default-2 c = rw (first-of _, ← c.word.ensures, ← c.natural-n.ensures, c.in_default.is-0)
