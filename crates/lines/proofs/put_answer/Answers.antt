-- `lines::put_answer` meets its contract: the values, and behind them the drives.
use native.Mathlib.Omega.{arith}
use Rattle.lines.specs.LineLaws.{values-at-most-42}
use Rattle.text.specs.PutLaws.{put_both, put-room}
use Rattle.lines.specs.Fields.{answer-parts}
use borrow.Author.Rules.{rules}
use Rattle.lines.proofs.put_answer.Goals as goal

pub put_drives-requires : goal.put_drives-requires
put_drives-requires c = put-room c.put_values-p1.ensures 42 46 (values-at-most-42 _) (omega arith)

pub returns : goal.returns
returns c = let values = c in
    let args = values.args in
    rw (← answer-parts args.t.now args.o) (put_both values.put_values-p1.ensures c.put_drives.ensures (omega (arith, values-at-most-42 args.o.live)))
