-- The laws of `floor_mod`, and of the quotient that belongs to it. Assumes nothing.
use Rattle.std.specs.Prelude.{ℕ, zero, suc, ◌+◌, ◌-◌, ◌*◌, ◌/◌, ◌%◌, ◌≤◌, ◌<◌, ◌≡◌, refl, ◌⊎◌, Bool, true, false, ℤ, pos, negsuc, neg_ℤ, ◌+ℤ◌, ◌*ℤ◌, ◌≤ℤ◌, ◌<ℤ◌}
use Rattle.std.proofs.Common.{sym, ap, ◌∙◌, inl, inr, arith, div-add-mod', mod-lt}
use Rattle.std.proofs.Math.Decide.{dec_le}
use Rattle.std.proofs.Math.Arith.{digits_mod}
use Rattle.std.specs.Int.{int_rem_euclid}
use Rattle.std.specs.Int.Signed.{le_z, lt_z, rem_z, shr_z}
use Rattle.integers.specs.Int.{P}
use Rattle.integers.specs.IntLaws.{ints, neg-P, neg-N, add_is, eq_of}
use Rattle.integers.specs.RingLaws.{var, lit, ◌⊕◌, ◌⊗◌, neg, val, ring, ring-to, le_in, lt_in, mul_mono}
use Rattle.integers.specs.Round.{floor_mod}

-- one more: the remainder is one more, or turns over
suc-mod : (a m : ℕ) → 0 < m → ((suc a % m ≡ suc (a % m)) × (suc (a % m) < m)) ⊎ ((suc a % m ≡ 0) × (suc (a % m) ≡ m))
suc-mod a m h = go (dec_le m (suc (a % m)))
  where
    is : suc a ≡ a / m * m + suc (a % m)
    is = omega (arith, div-add-mod' a m)

    over : suc (a % m) ≡ m → suc a ≡ suc (a / m) * m + 0
    over e = omega (arith, div-add-mod' a m)

    go : Dec (m ≤ suc (a % m)) → ((suc a % m ≡ suc (a % m)) × (suc (a % m) < m)) ⊎ ((suc a % m ≡ 0) × (suc (a % m) ≡ m))
    go (yes y) =
        let e : suc (a % m) ≡ m = omega (arith, mod-lt a h) in
        inr (ap (λ (x : ℕ). x % m) (over e) ∙ digits_mod (suc (a / m)) h, e)
    go (no f) =
        let l : suc (a % m) < m = omega (arith, f) in
        inl (ap (λ (x : ℕ). x % m) is ∙ digits_mod (a / m) l, l)

pub floor-range : (a r : ℤ) → pos 0 <ℤ r → (pos 0 ≤ℤ floor_mod a r) × (floor_mod a r <ℤ r)
unfolding floor_mod
floor-range a (negsuc r) h = absurd (omega (arith, ints))
floor-range a (pos zero) h = absurd (omega (arith, ints))
floor-range (pos a) (pos (suc r)) h =
    let p : 0 < suc r = omega arith in
    (omega (arith, ints), omega (arith, ints, mod-lt a p))
floor-range (negsuc a) (pos (suc r)) h = (omega (arith, ints), omega (arith, ints))

-- the number is a multiple of r and the remainder
pub floor-split : (a r : ℤ) → pos 0 <ℤ r → a ≡ shr_z a (P r) *ℤ r +ℤ floor_mod a r
unfolding floor_mod
floor-split a (negsuc r) h = absurd (omega (arith, ints))
floor-split a (pos zero) h = absurd (omega (arith, ints))
floor-split (pos a) (pos (suc r)) h = ap pos (sym (div-add-mod' a (suc r)))
floor-split (negsuc a) (pos (suc r)) h =
    let m = suc r in
    let p : 0 < m = omega arith in
    ring (var (negsuc a)) (var (negsuc (a / m)) ⊗ var (pos m) ⊕ var (pos (r - a % m))) (omega (arith, div-add-mod' a m, mod-lt a p))

-- two ways to write a number as a multiple of r and a rest from 0 up to r - 1 have one rest
pub same_rest : (k l m n r : ℤ) → pos 0 ≤ℤ m → m <ℤ r → pos 0 ≤ℤ n → n <ℤ r → k *ℤ r +ℤ m ≡ l *ℤ r +ℤ n → m ≡ n
same_rest k l m n r hm hm' hn hn' e = go (le_z k l) (le_z l k) refl refl
  where
    hr : pos 0 ≤ℤ r
    hr = omega (arith, ints)

    -- where x is above y, x r is at least y r + r
    step : (x y : ℤ) → le_z x y ≡ false → val ((var y ⊕ var (pos 1)) ⊗ var r) ≤ℤ val (var x ⊗ var r)
    step x y h = mul_mono (y +ℤ pos 1) x r (omega (arith, ints, add_is y (pos 1))) hr

    go : (s t : Bool) → le_z k l ≡ s → le_z l k ≡ t → m ≡ n
    go true true hs ht =
        omega (
          arith,
          ints,
          ring-to (var k ⊗ var r ⊕ var m) (var l ⊗ var r ⊕ var n) e,
          le_in (var k ⊗ var r) (var l ⊗ var r) (mul_mono k l r (omega (arith, ints)) hr),
          le_in (var l ⊗ var r) (var k ⊗ var r) (mul_mono l k r (omega (arith, ints)) hr),
        )
    go false t hs ht =
        absurd (omega (arith, ints, ring-to (var k ⊗ var r ⊕ var m) (var l ⊗ var r ⊕ var n) e, le_in ((var l ⊕ var (pos 1)) ⊗ var r) (var k ⊗ var r) (step k l hs)))
    go true false hs ht =
        absurd (omega (arith, ints, ring-to (var k ⊗ var r ⊕ var m) (var l ⊗ var r ⊕ var n) e, le_in ((var k ⊕ var (pos 1)) ⊗ var r) (var l ⊗ var r) (step l k ht)))

-- the only rest
pub floor-only : (a r k m : ℤ) → pos 0 <ℤ r → a ≡ k *ℤ r +ℤ m → pos 0 ≤ℤ m → m <ℤ r → m ≡ floor_mod a r
floor-only a r k m h e hm hm' =
    let f = floor-range a r h in
    same_rest k (shr_z a (P r)) m (floor_mod a r) r hm hm' f.0 f.1 (sym e ∙ floor-split a r h)

-- a number from 0 to r - 1 is its own
pub floor-small : (a r : ℤ) → pos 0 ≤ℤ a → a <ℤ r → a ≡ floor_mod a r
floor-small a r h k = floor-only a r (pos 0) a (omega (arith, ints)) (ring (var a) (lit 0 ⊗ var r ⊕ var a) (omega arith)) h k

-- the only quotient rounded down
pub floor-is : (a : ℤ) (r : ℕ) (q : ℤ) → 0 < r → (q *ℤ pos r) ≤ℤ a → a <ℤ (q *ℤ pos r +ℤ pos r) → shr_z a r ≡ q
floor-is a r q hr low high = go (le_z k q) (le_z q k) refl refl
  where
    k : ℤ
    k = shr_z a r

    m : ℤ
    m = floor_mod a (pos r)

    split : a ≡ k *ℤ pos r +ℤ m
    split = floor-split a (pos r) (omega (arith, ints))

    range : (pos 0 ≤ℤ m) × (m <ℤ pos r)
    range = floor-range a (pos r) (omega (arith, ints))

    -- where x is above y, x r is at least y r + r
    step : (x y : ℤ) → le_z x y ≡ false → ((y +ℤ pos 1) *ℤ pos r) ≤ℤ (x *ℤ pos r)
    step x y h = mul_mono (y +ℤ pos 1) x (pos r) (omega (arith, ints, add_is y (pos 1))) (omega (arith, ints))

    go : (s t : Bool) → le_z k q ≡ s → le_z q k ≡ t → k ≡ q
    go true true hs ht = eq_of k q (omega (arith, ints))
    go false t hs ht =
        absurd (omega (
          arith,
          ring-to (var a) (var k ⊗ lit r ⊕ var m) split,
          le_in (lit 0) (var m) range.0,
          lt_in (var a) (var q ⊗ lit r ⊕ lit r) high,
          le_in ((var q ⊕ lit 1) ⊗ lit r) (var k ⊗ lit r) (step k q hs),
        ))
    go true false hs ht =
        absurd (omega (
          arith,
          ring-to (var a) (var k ⊗ lit r ⊕ var m) split,
          lt_in (var m) (lit r) range.1,
          le_in (var q ⊗ lit r) (var a) low,
          le_in ((var k ⊕ lit 1) ⊗ lit r) (var q ⊗ lit r) (step q k ht),
        ))

-- ---- by the remainder of division toward 0

pub rem-keep : (a r : ℤ) → le_z r (pos 0) ≡ false → lt_z (rem_z a r) (pos 0) ≡ false → rem_z a r ≡ floor_mod a r
unfolding floor_mod
rem-keep a (negsuc r) h k = absurd (omega (arith, ints))
rem-keep a (pos zero) h k = absurd (omega (arith, ints))
rem-keep (pos a) (pos (suc r)) h k = refl
rem-keep (negsuc a) (pos (suc r)) h k = go (suc-mod a (suc r) (omega arith))
  where
    m : ℕ
    m = suc a % suc r

    go : ((suc a % suc r ≡ suc (a % suc r)) × (suc (a % suc r) < suc r)) ⊎ ((suc a % suc r ≡ 0) × (suc (a % suc r) ≡ suc r)) → neg_ℤ (pos (suc a % suc r)) ≡ pos (r - a % suc r)
    go (inl e) = absurd (omega (arith, ints, e.0, neg-P (pos (suc a % suc r)), neg-N (pos (suc a % suc r))))
    go (inr e) = omega (arith, ints, e.0, e.1, neg-P (pos (suc a % suc r)), neg-N (pos (suc a % suc r)))

pub rem-turn : (a r : ℤ) → le_z r (pos 0) ≡ false → lt_z (rem_z a r) (pos 0) ≡ true → rem_z a r +ℤ r ≡ floor_mod a r
unfolding floor_mod
rem-turn a (negsuc r) h k = absurd (omega (arith, ints))
rem-turn a (pos zero) h k = absurd (omega (arith, ints))
rem-turn (pos a) (pos (suc r)) h k = absurd (omega (arith, ints))
rem-turn (negsuc a) (pos (suc r)) h k = go (suc-mod a (suc r) (omega arith))
  where
    go : ((suc a % suc r ≡ suc (a % suc r)) × (suc (a % suc r) < suc r)) ⊎ ((suc a % suc r ≡ 0) × (suc (a % suc r) ≡ suc r)) → neg_ℤ (pos (suc a % suc r)) +ℤ pos (suc r) ≡ pos (r - a % suc r)
    go (inl e) = ring (neg (var (pos (suc a % suc r))) ⊕ var (pos (suc r))) (var (pos (r - a % suc r))) (omega (arith, e.0, e.1))
    go (inr e) = absurd (omega (arith, ints, e.0, neg-P (pos (suc a % suc r)), neg-N (pos (suc a % suc r))))

-- ---- by std's remainder, which is from 0 on too, as code has it

pub rem-euclid : (a r : ℤ) → le_z r (pos 0) ≡ false → int_rem_euclid a r ≡ floor_mod a r
unfolding floor_mod
rem-euclid a (pos zero) h = absurd (omega (arith, ints))
rem-euclid (pos a) (pos (suc r)) h = refl
rem-euclid (negsuc a) (pos (suc r)) h = ap (λ (k : ℕ). pos (k - a % suc r)) (omega arith)
rem-euclid a (negsuc r) h = absurd (omega (arith, ints))

pub rem-none : (a r : ℤ) → le_z r (pos 0) ≡ true → pos 0 ≡ floor_mod a r
unfolding floor_mod
rem-none a (negsuc r) h = refl
rem-none a (pos zero) h = refl
rem-none a (pos (suc r)) h = absurd (omega (arith, ints))
