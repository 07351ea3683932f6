-- The tests are the definition's own, on the numbers read.
use borrow.Author.Tests.{lt-ltb, le-ltb, le-leb, lt-leb}
use Rattle.parameters.specs.Load.{error_bit_wrong}
use Rattle.parameters.proofs.checks.error_bit_wrong.Goals as goal

pub returns-then-natural-bit : goal.returns-then-natural-bit
unfolding error_bit_wrong
returns-then-natural-bit c = rw (← c.natural-bit.ensures, ← c.natural.ensures, lt-ltb _ _ c.if-natural-bit.true)

pub returns-then-natural-bit-2 : goal.returns-then-natural-bit-2
unfolding error_bit_wrong
returns-then-natural-bit-2 c = rw (
  ← c.natural-bit.ensures,
  ← c.natural.ensures,
  ← c.natural-2.ensures,
  ← c.natural-then-natural-bit-2.ensures,
  le-ltb _ _ c.if-natural-bit.false,
  le-leb _ _ c.if-natural-bit-2.true,
)

pub returns : goal.returns
unfolding error_bit_wrong
returns c = rw (
  ← c.natural-bit.ensures,
  ← c.natural.ensures,
  ← c.natural-2.ensures,
  le-ltb _ _ c.if-natural-bit.false,
  lt-leb _ _ c.if-natural-bit-2.false,
)
