-- `poll_dialog::asked::pick` meets its contract: no word behind it, or one.
use mathlib.Core.Path.{sym, ap, ◌∙◌}
use native.Mathlib.Omega.{arith}
use lib.ListN.{length}
use Rattle.text.specs.WordLaws.{no_word, some_word}
use Rattle.poll_dialog.specs.Asked.{pick_in}
use Rattle.poll_dialog.proofs.asked.pick.Goals as goal

pub returns-then-extra-eq0 : goal.returns-then-extra-eq0
unfolding pick_in
returns-then-extra-eq0 c = rw (no_word c.args.s.now (sym (ap length c.word-extra.ensures) ∙ c.if-extra-eq0.true))

pub returns : goal.returns
unfolding pick_in
returns c = let n = c.if-extra-eq0.false in
    rw (some_word c.args.s.now (omega (arith, ap length c.word-extra.ensures)))
