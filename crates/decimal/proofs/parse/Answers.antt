-- `decimal::parse` meets its contract: each return is one way of reading a text, by its first byte and what it passes.
use mathlib.Core.Path.{◌≡◌, sym, ap, ◌∙◌}
use mathlib.Core.Bool.{false}
use mathlib.Core.List.{List, [], ◌∷◌}
use Prim.Native.Nat.{ℕ}
use native.Mathlib.Omega.{arith}
use lib.IntN.{pos}
use lib.ListN.{take}
use lib.Pointwise.{pointwise}
use mir.Facts.{to_z-of_z}
use Rattle.std.specs.Prelude.{nat_eq}
use Rattle.std.proofs.lemmas.Bool.{false≢true}
use Rattle.integers.specs.IntLaws.{ints}
use Rattle.decimal.specs.Decimal.{minus}
use Rattle.decimal.specs.ByteLaws.{pass-range}
use Rattle.decimal.specs.ParseLaws.{natural-read, natural-malformed}
use Rattle.decimal.proofs.parse.Goals as goal

-- a text with no minus sign in front is none and a minus sign
no-minus : (s : List ℕ) → pointwise nat_eq (take 1 s) (minus ∷ []) ≡ false → (t : List ℕ) → s ≡ minus ∷ t → ⊥
no-minus s h t e = false≢true (sym h ∙ ap (λ (l : List ℕ). pointwise nat_eq (take 1 l) (minus ∷ [])) e)

pub returns-then-not-natural : goal.returns-then-not-natural
returns-then-not-natural c =
    sym (natural-malformed _ (sym c.natural.ensures ∙ c.if-not-natural.true) (no-minus _ (rw c.in_default.is at c.strip_prefix.ensures.cases)))

pub overflow_cast-result : goal.overflow_cast-result
overflow_cast-result c = omega (arith, ints, pass-range _ (sym c.natural.ensures ∙ c.if-not-natural.false), c.value.ensures)

pub returns : goal.returns
returns c = rw (to_z-of_z {z = pos c.value.result} (overflow_cast-result c), c.value.ensures) (sym (natural-read _ (sym c.natural.ensures ∙ c.if-not-natural.false)))
