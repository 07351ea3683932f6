-- `sheet::answer` meets its contract: each question has its function.
use Rattle.sheet.specs.Sheet.{question_text}
use borrow.Author.Rules.{rules}
use Rattle.sheet.proofs.answer.Goals as goal

pub returns-in-Build : goal.returns-in-Build
unfolding question_text
returns-in-Build c = rw c.in-Build.is c.build.ensures

pub returns-in-Fault : goal.returns-in-Fault
unfolding question_text
returns-in-Fault c = rw c.in-Fault.is c.build-in-Fault.ensures

pub returns-in-Read : goal.returns-in-Read
unfolding question_text
returns-in-Read c = rw c.in-Read.is c.content.ensures

pub returns-in-Diagnose : goal.returns-in-Diagnose
unfolding question_text
returns-in-Diagnose c = rw c.in-Diagnose.is c.diagnosis.ensures
