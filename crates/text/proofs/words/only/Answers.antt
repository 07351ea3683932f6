-- `text::words::only` meets its contract: the first word, if no word stands behind it.
use mathlib.Core.Path.{sym, ◌∙◌}
use native.Mathlib.Omega.{arith}
use borrow.Author.Tests.{eqb-true, eqb-false}
use Rattle.text.specs.WordLaws.{only_one, only_none}
use Rattle.text.proofs.words.only.Goals as goal

pub returns-then-is_empty : goal.returns-then-is_empty
returns-then-is_empty c =
    let none = eqb-true _ 0 (sym c.is_empty.ensures ∙ c.if-is_empty.true) in
    c.word.ensures ∙ sym (only_one _ (rw (← c.rest-t.ensures, ← c.word-extra.ensures) none))

pub returns : goal.returns
returns c =
    let filled = eqb-false _ 0 (sym c.is_empty.ensures ∙ c.if-is_empty.false) in
    sym (only_none _ (rw (← c.rest-t.ensures, ← c.word-extra.ensures) (omega (arith, filled))))
