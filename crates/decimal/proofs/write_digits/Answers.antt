-- `decimal::write_digits` meets its contract: a number of at most 18 digits has room, and `spell` puts the digits that `places` counts.
use native.Mathlib.Omega.{arith}
use Rattle.decimal.specs.DigitLaws.{digits-few}
use Rattle.decimal.proofs.write_digits.Goals as goal

pub spell-requires : goal.spell-requires
spell-requires c = let start = c in
    (start.requires.1, c.places-k.ensures, omega (arith, c.places-k.ensures, digits-few start.args.n))
