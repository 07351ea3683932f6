-- `poll_dialog::line` meets its contract: what the line asks for is done.
use native.Mathlib.Omega.{arith}
use Rattle.text.specs.PutLaws.{put-within}
use Rattle.poll_dialog.specs.Dialog.{longest_line, after_line, line_text}
use Rattle.poll_dialog.proofs.DialogLaws.{line-at-most}
use Rattle.poll_dialog.proofs.line.Goals as goal

pub returns : goal.returns
unfolding after_line line_text
returns c = let d = c in
    let is = rw d.read.ensures at d.done-end.ensures.is in
    let put = rw d.read.ensures at d.done-end.ensures.text in
    record {
      is = is;
      text = put;
      within = put-within put longest_line (line-at-most d.args.d d.args.bytes.now) (omega arith);
    }
