-- `addresses::lowest_above` meets its contract. The invariant: the lowest from `at` on, in word i, is the lowest above where the search began.
use Rattle.std.proofs.Common.{◌≡◌, ℕ, ◌+◌, ◌-◌, ◌*◌, ◌/◌, ◌%◌, ◌^◌, ◌<◌, Some, get_or, sym, ◌∙◌, arith, rules}
use lib.Count.{count_trailing_zeros}
use native.Mathlib.Numerals.{add-one}
use Rattle.addresses.specs.declared.Addresses.{Addresses}
use Rattle.addresses.specs.Addresses.{holds}
use Rattle.addresses.specs.Search.{lowest_from}
use Rattle.addresses.proofs.AddressLaws.{rest-none, rest_some}
use Rattle.addresses.proofs.Addresses.lowest_above.Goals as goal

-- the lowest of a word's part that is not 0
module _ (s : Addresses) (at i : ℕ) (word : at / 64 ≡ i) (high : i < 4) where
  abbrev rest : ℕ
  rest = get_or s.words i 0 / 2 ^ (at % 64)

  found : get_or s.words i 0 < 2 ^ 64 → (rest ≡ 0 → ⊥) →
      (lowest_from (holds s) at (256 - at) ≡ Some (at + count_trailing_zeros 64 rest)) × (count_trailing_zeros 64 rest < 64 - at % 64)
  found small n = rw (← word) (rest_some s at (omega (arith, word, high)) (rw word small) (rw word n))

  passed : rest ≡ 0 → lowest_from (holds s) at (256 - at) ≡ lowest_from (holds s) ((i + 1) * 64) (256 - (i + 1) * 64)
  passed e = rw (← word) (rest-none s at (omega (arith, word, high)) (rw word e))

-- no address is above
pub returns-then-above-ge255 : goal.returns-then-above-ge255
unfolding lowest_from
returns-then-above-ge255 c = let n : 255 - c.args.above ≡ 0 = omega arith in rw n

pub loop-i-init : goal.loop-i-init
loop-i-init c = let n : 255 - c.args.above ≡ 256 - (c.args.above + 1) = omega arith in
    record { within = omega arith; word = omega arith; same = rw (n, add-one) }

pub overflow_cast-result : goal.overflow_cast-result
overflow_cast-result c =
    let l = c.loop-i in
    let small : get_or c.args.self.now.words l.i 0 < 2 ^ 64 = search rules in
    omega (arith, (found c.args.self.now l.at l.i l.invariant.word c.loop-i-test.true small c.if-rest-ne0.true).1)

pub returns-then-rest-ne0 : goal.returns-then-rest-ne0
returns-then-rest-ne0 c =
    let l = c.loop-i in
    let small : get_or c.args.self.now.words l.i 0 < 2 ^ 64 = search rules in
    sym (l.invariant.same ∙ (found c.args.self.now l.at l.i l.invariant.word c.loop-i-test.true small c.if-rest-ne0.true).0)

pub loop-i-preserved : goal.loop-i-preserved
loop-i-preserved c = let l = c.loop-i in
    record {
      within = omega (arith, c.loop-i-test.true);
      word = omega arith;
      same = l.invariant.same ∙ passed c.args.self.now l.at l.i l.invariant.word c.loop-i-test.true c.if-rest-ne0.false;
    }

pub returns : goal.returns
unfolding lowest_from
returns c = let n : 256 - c.loop-i.at ≡ 0 = omega (arith, c.loop-i.invariant.word, c.loop-i-test.false) in
    sym (rw n at c.loop-i.invariant.same)
