-- `panel::settle` meets its contract: the switches of the result, and the shown value.
use borrow.Author.Rules.{rules}
use mathlib.Core.Path.{◌≡◌}
use mir.Syntax.{w32}
use Rattle.integers.specs.IntLaws.{back_at, bk}
use Rattle.panel.specs.Step.{switched_of, shown_after, displayed_of}
use Rattle.panel.proofs.settle.Goals as goal

pub returns : goal.returns
unfolding switched_of shown_after displayed_of
returns c = let sh = c in
    let sw = sh in
    let l = sw.args.l in
    let r : bk w32 l.reading.result ≡ l.reading.result = search rules in
    let h : bk w32 l.shown ≡ l.shown = search rules in
    rw (
      c.settled.ensures,
      back_at w32 sh.shown_after-shown.result sh.shown_after-shown.type_inv,
      sh.shown_after-shown.ensures,
      sh.is_frozen-held.ensures,
      sw.switches_after-switches.ensures,
      r,
      h,
    )
