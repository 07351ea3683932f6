-- Remainders by a whole number R above 0: numbers a multiple of R apart have one remainder, and the remainder of a sum or a difference depends on the remainders
-- of its parts alone. Assumes nothing.
use Rattle.std.specs.Prelude.{◌≡◌, refl, ℕ, zero, suc, ◌%◌, ◌≤◌, ◌<◌, ℤ, pos, negsuc, neg_ℤ, ◌+ℤ◌, ◌-ℤ◌, ◌*ℤ◌, ◌<ℤ◌}
use Rattle.std.proofs.Common.{sym, mod-lt, arith}
use Rattle.std.specs.Int.Signed.{shr_z}
use Rattle.integers.specs.Int.{P, N}
use Rattle.integers.specs.IntLaws.{ints, excl}
use Rattle.integers.specs.RingLaws.{var, lit, neg, ◌⊕◌, ◌⊖◌, ◌⊗◌, ring, ring-to}
use Rattle.integers.specs.Round.{floor_mod}
use Rattle.integers.proofs.FloorLaws.{floor-range, floor-split, floor-only}

-- of a number that is not negative it is the remainder of naturals
pub floor-nat : (a R : ℕ) → 0 < R → floor_mod (pos a) (pos R) ≡ pos (a % R)
unfolding floor_mod
floor-nat a zero h = absurd (omega arith)
floor-nat a (suc R) h = refl

-- it is from 0 to R, whatever R is
pub rest-within : (a : ℤ) (R : ℕ) → (P (floor_mod a (pos R)) ≤ R) × (N (floor_mod a (pos R)) ≡ 0)
unfolding floor_mod
rest-within a zero = (omega arith, refl)
rest-within (pos a) (suc R) = (let l : 0 < suc R = omega arith in omega (arith, mod-lt a l), refl)
rest-within (negsuc a) (suc R) = (omega arith, refl)

module _ (R : ℕ) (h : 0 < R) where
  above : pos 0 <ℤ pos R
  above = omega (arith, ints)

  -- numbers a multiple of R apart have one remainder
  pub same-mod : (a b k : ℤ) → a ≡ b +ℤ k *ℤ pos R → floor_mod a (pos R) ≡ floor_mod b (pos R)
  same-mod a b k e =
      let f = floor-range b (pos R) above in
      sym (floor-only a (pos R) (shr_z b R +ℤ k) (floor_mod b (pos R)) above
      (ring (var a) ((var (shr_z b R) ⊕ var k) ⊗ lit R ⊕ var (floor_mod b (pos R)))
      (omega (arith, ring-to (var a) (var b ⊕ var k ⊗ lit R) e, ring-to (var b) (var (shr_z b R) ⊗ lit R ⊕ var (floor_mod b (pos R))) (floor-split b (pos R) above))))
      f.0 f.1)

  -- and numbers with one remainder are a multiple of R apart
  pub apart_by : (a b : ℤ) → floor_mod a (pos R) ≡ floor_mod b (pos R) → a ≡ b +ℤ (shr_z a R -ℤ shr_z b R) *ℤ pos R
  apart_by a b e =
      ring (var a) (var b ⊕ (var (shr_z a R) ⊖ var (shr_z b R)) ⊗ lit R)
      (omega (
        arith,
        ring-to (var (floor_mod a (pos R))) (var (floor_mod b (pos R))) e,
        ring-to (var a) (var (shr_z a R) ⊗ lit R ⊕ var (floor_mod a (pos R))) (floor-split a (pos R) above),
        ring-to (var b) (var (shr_z b R) ⊗ lit R ⊕ var (floor_mod b (pos R))) (floor-split b (pos R) above),
      ))

  -- a difference's remainder depends on the two remainders alone, and a sum's
  pub mod-sub : (a a' b b' : ℤ) → floor_mod a (pos R) ≡ floor_mod a' (pos R) → floor_mod b (pos R) ≡ floor_mod b' (pos R) →
      floor_mod (a -ℤ b) (pos R) ≡ floor_mod (a' -ℤ b') (pos R)
  mod-sub a a' b b' e f =
      numbers (shr_z a R -ℤ shr_z a' R) (shr_z b R -ℤ shr_z b' R) (apart_by a a' e) (apart_by b b' f)
    where
      numbers : (k l : ℤ) → a ≡ a' +ℤ k *ℤ pos R → b ≡ b' +ℤ l *ℤ pos R → floor_mod (a -ℤ b) (pos R) ≡ floor_mod (a' -ℤ b') (pos R)
      numbers k l e f =
          same-mod (a -ℤ b) (a' -ℤ b') (k -ℤ l)
          (ring (var a ⊖ var b) (var a' ⊖ var b' ⊕ (var k ⊖ var l) ⊗ lit R)
          (omega (arith, ring-to (var a) (var a' ⊕ var k ⊗ lit R) e, ring-to (var b) (var b' ⊕ var l ⊗ lit R) f)))

  pub mod-add : (a a' b : ℤ) → floor_mod a (pos R) ≡ floor_mod a' (pos R) → floor_mod (a +ℤ b) (pos R) ≡ floor_mod (a' +ℤ b) (pos R)
  mod-add a a' b e = numbers (shr_z a R -ℤ shr_z a' R) (apart_by a a' e)
    where
      numbers : (k : ℤ) → a ≡ a' +ℤ k *ℤ pos R → floor_mod (a +ℤ b) (pos R) ≡ floor_mod (a' +ℤ b) (pos R)
      numbers k e =
          same-mod (a +ℤ b) (a' +ℤ b) k
          (ring (var a ⊕ var b) (var a' ⊕ var b ⊕ var k ⊗ lit R) (omega (arith, ring-to (var a) (var a' ⊕ var k ⊗ lit R) e)))

  -- a remainder is a natural number below R, and its own remainder
  pub mod-nat : (a : ℤ) → pos (P (floor_mod a (pos R))) ≡ floor_mod a (pos R)
  mod-nat a =
      let f = floor-range a (pos R) above in
      ring (lit (P (floor_mod a (pos R)))) (var (floor_mod a (pos R))) (omega (arith, ints, f.0, excl (floor_mod a (pos R))))

  pub mod_below : (a : ℤ) → P (floor_mod a (pos R)) < R
  mod_below a = let f = floor-range a (pos R) above in omega (arith, ints, f.0, f.1, excl (floor_mod a (pos R)))

  pub mod-again : (a : ℤ) → floor_mod (floor_mod a (pos R)) (pos R) ≡ floor_mod a (pos R)
  mod-again a =
      same-mod (floor_mod a (pos R)) a (neg_ℤ (shr_z a R))
      (ring (var (floor_mod a (pos R))) (var a ⊕ neg (var (shr_z a R)) ⊗ lit R)
      (omega (arith, ring-to (var a) (var (shr_z a R) ⊗ lit R ⊕ var (floor_mod a (pos R))) (floor-split a (pos R) above))))
