-- `decimal::places` meets its contract. The invariant: top is 10 ^ k, and n has at least k digits. The measure is what is left of the digits.
use Prim.Native.Nat.{◌<◌}
use native.Mathlib.Nat.{pow-suc}
use native.Mathlib.Numerals.{add-one}
use native.Mathlib.Omega.{arith}
use lib.ListN.{length}
use Rattle.decimal.specs.Decimal.{digits_of}
use Rattle.decimal.specs.DigitLaws.{digits-some, digits-few, digits-within, digits-beyond}
use Rattle.decimal.proofs.places.Goals as goal

pub loop-top-init : goal.loop-top-init
loop-top-init c = omega (arith, digits-some c.args.n)

pub overflow_mul-top : goal.overflow_mul-top
overflow_mul-top c = omega arith

pub overflow_add-k : goal.overflow_add-k
overflow_add-k c = omega (arith, digits-few c.args.n)

pub loop-top-smaller : goal.loop-top-smaller
loop-top-smaller c =
    let further : c.loop-top.k < length (digits_of c.args.n) =
    digits-beyond _ c.args.n c.requires (omega arith) in
    omega (arith, further)

pub loop-top-preserved : goal.loop-top-preserved
loop-top-preserved c =
    let further : c.loop-top.k < length (digits_of c.args.n) =
    digits-beyond _ c.args.n c.requires (omega arith) in
    rw (add-one c.loop-top.k, pow-suc 10 c.loop-top.k) (omega (arith, further))

pub returns : goal.returns
returns c = omega (arith, digits-within c.loop-top.k c.args.n c.requires (omega arith) (omega arith))
