-- The laws of steps 2 and 3: A is added after rounding, and every number stays within what 64 bits hold.
-- Paper 01, "From telegram to result". Assumes nothing.
use Rattle.std.specs.Prelude.{◌≡◌, not, ℕ, zero, suc, ◌≤◌, ◌<◌, T, eqb, ℤ, pos, ◌+ℤ◌, ◌-ℤ◌, ◌*ℤ◌}
use Rattle.std.proofs.Common.{arith, lit≤}
use Rattle.integers.specs.Limit.{Z}
use Rattle.integers.specs.ChoiceLaws.{by-test}
use Rattle.integers.specs.Int.{Within}
use Rattle.integers.specs.IntLaws.{ints, within, wider, add-within, sub_within, mul-within}
use Rattle.integers.specs.RingLaws.{var, lit, ◌⊕◌, ring}
use Rattle.integers.specs.declared.Rounded.{Rounded}
use Rattle.integers.specs.Round.{round_div, rounding, floor_mod}
use Rattle.integers.proofs.RoundLaws.{round-within}
use Rattle.integers.proofs.FloorLaws.{floor-range}
use Rattle.measurement.specs.Measure.{distance_of, scaled_of, scaled_by}

-- A is added after rounding
pub additive-last : (d : ℤ) (f g : ℕ) (A : ℤ) → scaled_of d f g A ≡ scaled_of d f g (pos 0) +ℤ A
unfolding scaled_of
additive-last d f g A = let q = round_div (d *ℤ pos f) (pos g) in ring (var q ⊕ var A) (var q ⊕ lit 0 ⊕ var A) (omega arith)

-- the sum as the code makes it, from the rounded quotient, whose mark stays
pub scaled-is : (d : ℤ) (f g : ℕ) (A : ℤ) (q : Rounded) → q ≡ rounding (d *ℤ pos f) (pos g) → ◌≡◌ {A = Rounded} (record { value = q.value +ℤ A; half = q.half }) (scaled_by d f g A)
unfolding scaled_by scaled_of rounding
scaled-is d f g A q e = rw e

not-zero : (n : ℕ) → T (not (eqb n 0)) → 0 < n
not-zero zero t = absurd t
not-zero (suc n) t = omega arith

-- d, of a 32-bit position
pub distance-within : (p : ℕ) (O : ℤ) (R : ℕ) → p < 4294967296 → Within Z O → R ≤ Z → Within 4394967294 (distance_of p O R)
unfolding distance_of
distance-within p O R h o r =
    by-test (eqb R 0) (pos p -ℤ O) (floor_mod (pos p -ℤ O) (pos R)) (Within 4394967294)
    (λ _. sub_within {A = 4294967295} {a = pos p} (record { above = omega arith; below = omega arith }) o)
    (λ c. let b = floor-range (pos p -ℤ O) (pos R) (omega (arith, ints, not-zero R c)) in
    within 4394967294 (floor_mod (pos p -ℤ O) (pos R)) (omega (arith, ints, b.0, b.1)) (omega (arith, ints, b.0, b.1)))

-- v
pub scaled-within : (d : ℤ) (f g : ℕ) (A : ℤ) → Within 4394967294 d → f ≤ 9999999 → Within Z A → Within 50000000000000000 (scaled_of d f g A)
unfolding scaled_of
scaled-within d f g A h k a =
    wider (add-within (round-within (pos g) (mul-within h (record { above = k; below = omega arith }))) a) (lit≤ tt)
