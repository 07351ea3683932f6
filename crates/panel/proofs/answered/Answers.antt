-- `panel::answered` meets its contract: the outputs are those of the table in force, the rest stands in the state.
use borrow.Author.Rules.{rules}
use mathlib.Core.Path.{◌≡◌}
use mir.Syntax.{w32}
use Rattle.integers.specs.IntLaws.{bk}
use Rattle.panel.specs.Step.{answer_of}
use Rattle.panel.proofs.answered.Goals as goal

pub returns : goal.returns
unfolding answer_of
returns c = let b = c in
    let l = b.args.s.live in
    let r : bk w32 l.reading.result ≡ l.reading.result = search rules in
    let d : bk w32 l.shown ≡ l.shown = search rules in
    rw (r, d, b.outputs-levels.ensures)
