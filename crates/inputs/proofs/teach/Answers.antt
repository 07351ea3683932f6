-- `inputs::teach` meets its contract: the result is stored.
use borrow.Author.Rules.{rules}
use mathlib.Core.Path.{◌≡◌}
use mir.Syntax.{w32}
use Rattle.integers.specs.IntLaws.{bk}
use Rattle.inputs.specs.Commands.{teach_of}
use Rattle.inputs.proofs.teach.Goals as goal

pub returns : goal.returns
unfolding teach_of
returns c = let l = c.args.l in
    let e : bk w32 l.reading.result ≡ l.reading.result = search rules in
    rw (c.store_preselection.ensures, e)
