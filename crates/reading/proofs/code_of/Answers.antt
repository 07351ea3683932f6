-- `reading::code_of` meets its contract: the span's ends and the result are words.
use borrow.Author.Rules.{rules}
use mathlib.Core.Path.{◌≡◌}
use mir.Syntax.{w32}
use Rattle.integers.specs.IntLaws.{bk}
use Rattle.reading.specs.Reading.{coded_at}
use Rattle.reading.proofs.code_of.Goals as goal

pub returns : goal.returns
unfolding coded_at
returns c = let g = c.args in
    let s : bk w32 g.a.start ≡ g.a.start = search rules in
    let e : bk w32 g.a.end ≡ g.a.end = search rules in
    let r : bk w32 g.m.result ≡ g.m.result = search rules in
    rw (c.code.ensures, s, e, r)
