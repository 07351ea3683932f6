-- `state::widened` meets its contract by its tests: under an error nothing is noted, and the first result is both.
use borrow.Author.Rules.{rules}
use mathlib.Core.Path.{◌≡◌}
use mir.Syntax.{w32}
use Rattle.integers.specs.IntLaws.{bk, back_at}
use Rattle.reading.specs.ReadingLaws.{no-error-numbered}
use Rattle.state.specs.Extremes.{widened_of}
use Rattle.state.proofs.widened.Goals as goal

pub returns-then-is_some : goal.returns-then-is_some
unfolding widened_of
returns-then-is_some c = rw (no-error-numbered c.args.r.error, ← c.is_some.ensures, c.if-is_some.true)

pub returns-then-x : goal.returns-then-x
unfolding widened_of
returns-then-x c = let l = c.lower in
    let h = c.higher in
    let x = c.args.x in
    let r = c.args.r in
    let er : bk w32 r.result ≡ r.result = search rules in
    let el : bk w32 x.least ≡ x.least = search rules in
    let eg : bk w32 x.greatest ≡ x.greatest = search rules in
    rw (
      no-error-numbered r.error,
      ← c.is_some.ensures,
      c.if-is_some.false,
      c.if-x.true,
      back_at w32 l.result l.type_inv,
      back_at w32 h.result h.type_inv,
      l.ensures,
      h.ensures,
      er,
      el,
      eg,
    )

pub returns : goal.returns
unfolding widened_of
returns c = let r = c.args.r in
    let er : bk w32 r.result ≡ r.result = search rules in
    rw (no-error-numbered r.error, ← c.is_some.ensures, c.if-is_some.false, c.if-x.false, er)
