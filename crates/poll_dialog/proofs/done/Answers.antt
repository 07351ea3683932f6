-- `poll_dialog::done` meets its contract: each thing asked for has its function.
use Rattle.std.proofs.Common.{ap}
use Rattle.dispatcher.specs.Dispatch.{Turn}
use Rattle.text.specs.PutLaws.{put-none}
use Rattle.poll_dialog.specs.Dialog.{after_asked, asked_text}
use Rattle.poll_dialog.proofs.done.Goals as goal

pub returns-in-Blank : goal.returns-in-Blank
unfolding after_asked asked_text
returns-in-Blank c = record { is = rw c.in-Blank.is; text = rw c.in-Blank.is (put-none _ 0) }

pub returns-in-Wrong : goal.returns-in-Wrong
unfolding after_asked asked_text
returns-in-Wrong c = record { is = rw c.in-Wrong.is; text = rw (c.in-Wrong.is, ← c.number.ensures) c.put_message.ensures }

pub returns-in-Join : goal.returns-in-Join
unfolding after_asked asked_text
returns-in-Join c = record { is = rw c.in-Join.is c.join.ensures.is; text = rw c.in-Join.is c.join.ensures.text }

pub returns-in-Report : goal.returns-in-Report
unfolding after_asked asked_text
returns-in-Report c = record { is = rw c.in-Report.is c.report.ensures.is; text = rw c.in-Report.is c.report.ensures.text }

pub returns-in-Pick : goal.returns-in-Pick
unfolding after_asked asked_text
returns-in-Pick c =
    record {
      is = rw c.in-Pick.is (ap (λ (t : Turn). t.0) c.pick.ensures);
      text = rw (c.in-Pick.is, ← ap (λ (t : Turn). t.1) c.pick.ensures) c.put_choice.ensures;
    }
