-- A search over the numbers below n, as an iterator makes it.
use Rattle.std.specs.Prelude.{◌≡◌, refl, Bool, true, false, ◌||◌, ℕ, zero, suc, ◌+◌}
use Rattle.std.specs.List.{list_any, range_with_len}
use Rattle.std.proofs.Common.{arith, add-zero, zero-add}
use Rattle.integers.specs.Choice.{some}

or-empty : (a : Bool) → (a || false) ≡ (false || a)
or-empty true = refl
or-empty false = refl

or-group : (a b c : Bool) → (a || (b || c)) ≡ ((a || b) || c)
or-group true b c = refl
or-group false b c = refl

module _ (f : ℕ → Bool) where
  -- the last number's test stands last
  last-tested : (first n : ℕ) → list_any f (range_with_len first (suc n)) ≡ (list_any f (range_with_len first n) || f (first + n))
  last-tested first zero = rw add-zero (or-empty (f first))
  last-tested first (suc n) =
      let next : first + 1 + n ≡ first + suc n = omega arith in
      rw (last-tested (first + 1) n, next) (or-group (f first) (list_any f (range_with_len (first + 1) n)) (f (first + suc n)))

  pub any-below : (n : ℕ) → list_any f (range_with_len 0 n) ≡ some n f
  unfolding some
  any-below zero = refl
  any-below (suc n) = rw (last-tested 0 n, zero-add, any-below n)
