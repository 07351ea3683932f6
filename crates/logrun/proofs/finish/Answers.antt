-- `logrun::finish` meets its contract: the line is that of the number at the end.
use mathlib.Core.Path.{ap, ◌∙◌}
use native.Mathlib.Omega.{arith}
use Rattle.events.specs.Log.{end_number}
use Rattle.lines.specs.LineLaws.{longest, end-line-at-most}
use Rattle.text.specs.PutLaws.{put-within}
use Rattle.logrun.proofs.finish.Goals as goal

pub returns : goal.returns
returns c =
    let number = c.number_of.ensures ∙ ap end_number c.finished.ensures in
    let put = rw number at c.end_line.ensures in
    record {
      text = put;
      within = put-within put longest (end-line-at-most _) (omega arith);
    }
