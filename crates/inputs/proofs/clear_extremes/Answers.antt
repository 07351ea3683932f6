-- `inputs::clear_extremes` meets its contract.
use borrow.Author.Rules.{rules}
use mathlib.Core.Path.{◌≡◌}
use mir.Syntax.{w32}
use Rattle.integers.specs.IntLaws.{bk}
use Rattle.inputs.proofs.clear_extremes.Goals as goal

pub returns : goal.returns
returns c = let r = c in
    let x = r in
    let l = x.args.l in
    let e : bk w32 l.reading.result ≡ l.reading.result = search rules in
    rw (c.with_record.ensures, c.empty.ensures, r.with_reading.ensures, x.extremes_at-x.ensures, e)
