-- `decimal::natural` meets its contract: each return is where the tests on the way to it take the definition.
use Rattle.std.specs.Prelude.{ℕ, ◌<◌, ◌≤◌, eqb, [], ◌∷◌}
use mathlib.Core.Path.{◌≡◌, refl}
use mathlib.Core.Bool.{false, cond}
use mathlib.Core.List.{List}
use native.Mathlib.Omega.{arith}
use lib.ListN.{length, get_or}
use borrow.Author.Tests.{eq-eqb, ne_eqb, le-ltb, lt-ltb}
use Rattle.decimal.specs.Decimal.{digit, most_digits}
use Rattle.decimal.specs.ByteSteps.{all_digits, is_natural}
use Rattle.decimal.proofs.natural.Goals as goal

-- no digit, or too many
misfit : (s : List ℕ) → (0 < length s → length s ≤ most_digits → ⊥) → false ≡ is_natural s
unfolding is_natural
misfit [] h = refl
misfit (b ∷ s) h = rw (ne_eqb (length (b ∷ s)) 0 (λ e. omega arith), lt-ltb most_digits (length (b ∷ s)) (omega arith))

-- one to 18 bytes
fitting : (s : List ℕ) → 0 < length s → length s ≤ most_digits → is_natural s ≡ cond (eqb (get_or s 0 0) (digit 0)) (eqb (length s) 1) (all_digits s)
unfolding is_natural
fitting s some few = rw (ne_eqb (length s) 0 (λ e. omega arith), le-ltb most_digits (length s) few)

pub returns-then-count-eq0 : goal.returns-then-count-eq0
returns-then-count-eq0 c = misfit _ (λ a b. omega arith)

pub returns-then-first-eq48 : goal.returns-then-first-eq48
returns-then-first-eq48 c = rw (fitting c.args.s.now (omega arith) (omega arith), eq-eqb _ _ c.if-first-eq48.true)

pub returns : goal.returns
returns c = rw (fitting c.args.s.now (omega arith) (omega arith), ne_eqb _ _ c.if-first-eq48.false) c.digits_only.ensures
