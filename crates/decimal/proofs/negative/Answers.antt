-- `decimal::negative` meets its contract: each return is one way of reading what stands after a minus sign.
use mathlib.Core.Path.{sym, ◌∙◌}
use native.Mathlib.Omega.{arith}
use lib.IntN.{pos}
use mir.Facts.{to_z-of_z}
use Rattle.integers.specs.IntLaws.{ints, fit}
use Rattle.decimal.specs.ByteLaws.{pass-range}
use Rattle.decimal.specs.ParseLaws.{negative-read, negative-malformed, minus-zero-malformed}
use Rattle.decimal.proofs.negative.Goals as goal

pub returns-then-not-natural : goal.returns-then-not-natural
returns-then-not-natural c = sym (negative-malformed _ (sym c.natural.ensures ∙ c.if-not-natural.true))

pub returns-then-n-eq0 : goal.returns-then-n-eq0
returns-then-n-eq0 c = sym (minus-zero-malformed _ (sym c.value-n.ensures ∙ c.if-n-eq0.true))

pub overflow_cast-result : goal.overflow_cast-result
overflow_cast-result c = omega (arith, ints, pass-range _ (sym c.natural.ensures ∙ c.if-not-natural.false), c.value-n.ensures)

pub overflow_sub-result : goal.overflow_sub-result
overflow_sub-result c = omega (arith, ints, fit (overflow_cast-result c))

pub returns : goal.returns
returns c =
    rw (to_z-of_z (overflow_sub-result c), to_z-of_z {z = pos c.value-n.result} (overflow_cast-result c))
    (sym (negative-read _ c.value-n.result (sym c.natural.ensures ∙ c.if-not-natural.false) (sym c.value-n.ensures) (omega arith)))
