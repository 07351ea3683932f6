-- The laws of `round_div`: halves away from zero, monotone, nearest, odd, only. Assumes nothing.
use Rattle.std.specs.Prelude.{ℕ, zero, suc, ◌+◌, ◌*◌, ◌/◌, ◌%◌, ◌≤◌, ◌<◌, ◌≡◌, refl, ℤ, pos, negsuc, neg_ℤ, nat_abs, ◌+ℤ◌, ◌-ℤ◌, ◌*ℤ◌, ◌≤ℤ◌, ◌<ℤ◌}
use Rattle.std.proofs.Common.{sym, ap, ◌∙◌, arith, div-add-mod', mod-lt, mul-le-mul_right, le_antisymm}
use Rattle.std.proofs.Math.Nat.{div-zero}
use Rattle.std.proofs.Math.Decide.{dec_le}
use Rattle.std.proofs.Math.IntN.{neg_ℤ-neg_ℤ}
use Rattle.std.specs.Int.Signed.{quot_z, rem_z}
use Rattle.integers.specs.Int.{P, N, Within}
use Rattle.integers.specs.IntLaws.{excl, ints, neg-P, neg-N, abs_is}
use Rattle.integers.specs.RingLaws.{Exp, var, ◌⊕◌, ◌⊖◌, ◌⊗◌, neg, val, up, dn, halves, ring, le}
use Rattle.integers.specs.Round.{round_div}

-- ---- on ℕ: ⌊n / d + 1/2⌋ is the q with 2 q d ≤ 2 n + d < 2 q d + 2 d

abbrev pub near : ℕ → ℕ → ℕ
near a d = (2 * a + d) / (2 * d)

pub near-low : (a d : ℕ) → 2 * (near a d * d) ≤ 2 * a + d
near-low a d = omega (arith, div-add-mod' (2 * a + d) (2 * d))

pub near-high : (a d : ℕ) → 0 < d → 2 * a < 2 * (near a d * d) + d
near-high a d h =
    let pos2 : 0 < 2 * d = omega arith in
    omega (arith, div-add-mod' (2 * a + d) (2 * d), mod-lt (2 * a + d) pos2)

-- k d and l d, with 2 d k ≤ x and x < 2 d l + 2 d: k ≤ l
squeeze : (k l d x : ℕ) → 2 * (k * d) ≤ x → x < 2 * (l * d) + 2 * d → k ≤ l
squeeze k l d x h j = go (dec_le k l)
  where
    go : Dec (k ≤ l) → k ≤ l
    go (yes y) = y
    go (no f) =
        let m : suc l ≤ k = omega (arith, f) in
        absurd (omega (arith, mul-le-mul_right d m))

near-is : (a d q : ℕ) → 0 < d → 2 * (q * d) ≤ 2 * a + d → 2 * a < 2 * (q * d) + d → q ≡ near a d
near-is a d q h l u =
    let x = near-low a d in
    let y = near-high a d h in
    le_antisymm (squeeze q (near a d) d (2 * a + d) l (omega arith)) (squeeze (near a d) q d (2 * a + d) x (omega arith))

near-zero : (d : ℕ) → near 0 d ≡ 0
near-zero zero = refl
near-zero (suc d) = sym (near-is 0 (suc d) 0 (omega arith) (omega arith) (omega arith))

near-mono : (a b d : ℕ) → a ≤ b → near a d ≤ near b d
near-mono a b zero h = omega (arith, div-zero (2 * a + 0))
near-mono a b (suc d) h =
    let x = near-low a (suc d) in
    let y = near-high b (suc d) (omega arith) in
    squeeze (near a (suc d)) (near b (suc d)) (suc d) (2 * a + suc d) x (omega arith)

-- ---- sizes

pub abs-le : (e : Exp) (D : ℕ) → up e ≤ D + dn e → dn e ≤ D + up e → nat_abs (val e) ≤ D
abs-le e D h k = omega (arith, abs_is (val e), excl (val e), halves e)

pub abs-to : (e : Exp) → (up e ≤ nat_abs (val e) + dn e) × (dn e ≤ nat_abs (val e) + up e)
abs-to e = omega (arith, abs_is (val e), halves e)

-- 2 |d q − a|
unfoldable pub off : ℤ → ℤ → ℤ → ℕ
off a d q = nat_abs (pos 2 *ℤ (d *ℤ q -ℤ a))

abbrev off_e : ℤ → ℤ → Exp → Exp
off_e a d q = var (pos 2) ⊗ (var d ⊗ q ⊖ var a)

-- ---- the laws

-- where a / d is q and a half
half : (a d q : ℕ) → 0 < d → 2 * a ≡ (2 * q + 1) * d → near a d ≡ suc q
half a d q h e = sym (near-is a d (suc q) h (omega arith) (omega arith))

-- below zero it is −(q + 1)
pub half-below : (a d q : ℕ) → 0 < d → 2 * suc a ≡ (2 * q + 1) * d → round_div (negsuc a) (pos d) ≡ negsuc q
unfolding round_div
half-below a d q h e = ap (λ (m : ℕ). neg_ℤ (pos m)) (half (suc a) d q h e)

-- it keeps the order
pub round_mono : (a b d : ℤ) → a ≤ℤ b → round_div a d ≤ℤ round_div b d
unfolding round_div
round_mono a b (negsuc d) h = omega (arith, ints)
round_mono (pos a) (pos b) (pos d) h =
    let l : a ≤ b = omega (arith, ints) in
    omega (arith, ints, near-mono a b d l)
round_mono (pos a) (negsuc b) (pos d) h = absurd (omega (arith, ints))
round_mono (negsuc a) (pos b) (pos d) h = omega (arith, ints, neg-P (pos (near (suc a) d)), neg-N (pos (near (suc a) d)))
round_mono (negsuc a) (negsuc b) (pos d) h =
    let l : suc b ≤ suc a = omega (arith, ints) in
    omega (arith, ints, near-mono (suc b) (suc a) d l, neg-P (pos (near (suc a) d)), neg-N (pos (near (suc a) d)), neg-P (pos (near (suc b) d)), neg-N (pos (near (suc b) d)))

-- above zero it is q + 1
pub half-above : (a d q : ℕ) → 0 < d → 2 * a ≡ (2 * q + 1) * d → round_div (pos a) (pos d) ≡ pos (suc q)
unfolding round_div
half-above a d q h e = ap pos (half a d q h e)

-- the error is at most half the divisor
pub round-near : (a d : ℤ) → pos 0 <ℤ d → off a d (round_div a d) ≤ P d
unfolding round_div off
round-near (pos a) (pos d) h =
    let hd : 0 < d = omega (arith, ints) in
    abs-le (off_e (pos a) (pos d) (var (pos (near a d)))) d (omega (arith, near-low a d)) (omega (arith, near-high a d hd))
round-near (negsuc a) (pos d) h =
    let hd : 0 < d = omega (arith, ints) in
    abs-le (off_e (negsuc a) (pos d) (neg (var (pos (near (suc a) d))))) d (omega (arith, near-high (suc a) d hd)) (omega (arith, near-low (suc a) d))
round-near a (negsuc d) h = absurd (omega (arith, ints))

-- the same as two orders: −d ≤ 2 (d q − a) ≤ d
module _ (a d : ℤ) (h : pos 0 <ℤ d) where
  off-halves : (up (off_e a d (var (round_div a d))) ≤ P d + dn (off_e a d (var (round_div a d)))) × (dn (off_e a d (var (round_div a d))) ≤ P d + up (off_e a d (var (round_div a d))))
  unfolding off
  off-halves = omega (arith, abs-to (off_e a d (var (round_div a d))), round-near a d h)

  pub round-above : (pos 2 *ℤ (d *ℤ round_div a d)) ≤ℤ (pos 2 *ℤ a +ℤ d)
  round-above = le (var (pos 2) ⊗ (var d ⊗ var (round_div a d))) (var (pos 2) ⊗ var a ⊕ var d) (omega (arith, ints, excl d, off-halves))

  pub round-below : (pos 2 *ℤ a) ≤ℤ (pos 2 *ℤ (d *ℤ round_div a d) +ℤ d)
  round-below = le (var (pos 2) ⊗ var a) (var (pos 2) ⊗ (var d ⊗ var (round_div a d)) ⊕ var d) (omega (arith, ints, excl d, off-halves))

-- of −a it is − of a's
pub round-neg : (a d : ℤ) → round_div (neg_ℤ a) d ≡ neg_ℤ (round_div a d)
unfolding round_div
round-neg a (negsuc d) = refl
round-neg (pos zero) (pos d) = ap pos (near-zero d) ∙ sym (ap (λ (k : ℕ). neg_ℤ (pos k)) (near-zero d))
round-neg (pos (suc a)) (pos d) = refl
round-neg (negsuc a) (pos d) = sym (neg_ℤ-neg_ℤ (pos (near (suc a) d)))

strict : (a d q x : ℕ) → 0 < d → x ≤ d → 2 * a ≤ x + 2 * (q * d) → (x ≡ d → a ≤ q * d) → 2 * a < 2 * (q * d) + d
strict a d q x hd h k f = go (dec_le d x)
  where
    go : Dec (d ≤ x) → 2 * a < 2 * (q * d) + d
    go (yes y) = omega (arith, f (omega arith))
    go (no y) = omega arith

-- a q at distance at most half the divisor, and at half only where d q is not nearer to 0 than a, is it
pub round_is : (a d q : ℤ) → pos 0 <ℤ d → off a d q ≤ P d → (off a d q ≡ P d → nat_abs a ≤ nat_abs (d *ℤ q)) → q ≡ round_div a d
unfolding round_div off
round_is a (negsuc d) q hd h k = absurd (omega (arith, ints))
round_is (pos a) (pos d) (pos q) hd h k =
    let hd' : 0 < d = omega (arith, ints) in
    let t = abs-to (off_e (pos a) (pos d) (var (pos q))) in
    ap pos (near-is a d q hd' (omega arith) (strict a d q (off (pos a) (pos d) (pos q)) hd' h (omega arith) (λ e. omega (arith, k e))))
round_is (pos a) (pos d) (negsuc q) hd h k =
    absurd (omega (arith, ints, abs-to (off_e (pos a) (pos d) (var (negsuc q)))))
round_is (negsuc a) (pos d) (pos zero) hd h k =
    let hd' : 0 < d = omega (arith, ints) in
    let t = abs-to (off_e (negsuc a) (pos d) (var (pos 0))) in
    ap (λ (m : ℕ). neg_ℤ (pos m)) (near-is (suc a) d 0 hd' (omega arith) (strict (suc a) d 0 (off (negsuc a) (pos d) (pos 0)) hd' h (omega arith) (λ e. omega (arith, k e))))
round_is (negsuc a) (pos d) (pos (suc q)) hd h k =
    absurd (omega (arith, ints, abs-to (off_e (negsuc a) (pos d) (var (pos (suc q))))))
round_is (negsuc a) (pos d) (negsuc q) hd h k =
    let hd' : 0 < d = omega (arith, ints) in
    let t = abs-to (off_e (negsuc a) (pos d) (var (negsuc q))) in
    let m = neg_ℤ (pos (d * suc q)) in
    ap (λ (m : ℕ). neg_ℤ (pos m)) (near-is (suc a) d (suc q) hd' (omega arith) (strict (suc a) d (suc q) (off (negsuc a) (pos d) (negsuc q)) hd' h (omega arith) (λ e. omega (arith, k e, abs_is m, neg-P (pos (d * suc q)), neg-N (pos (d * suc q))))))

-- the only whole number nearer than half the divisor
pub round-only : (a d q : ℤ) → pos 0 <ℤ d → off a d q < P d → q ≡ round_div a d
round-only a d q hd h = round_is a d q hd (omega arith) (λ e. absurd (omega arith))

-- at an exact half, the one farther from 0
pub round-half : (a d q : ℤ) → pos 0 <ℤ d → off a d q ≡ P d → nat_abs a ≤ nat_abs (d *ℤ q) → q ≡ round_div a d
round-half a d q hd h k = round_is a d q hd (omega arith) (λ e. k)

-- a/d at a multiple of d is exact
pub round_exact : (d q : ℤ) → pos 0 <ℤ d → q ≡ round_div (d *ℤ q) d
unfolding off
round_exact d q hd =
    let z : nat_abs (val (off_e (d *ℤ q) d (var q))) ≤ 0 = abs-le (off_e (d *ℤ q) d (var q)) 0 (omega (arith, halves (var d ⊗ var q))) (omega (arith, halves (var d ⊗ var q))) in
    round-only (d *ℤ q) d q hd (omega (arith, ints))

-- a whole number is itself
pub round-one : (a : ℤ) → round_div a (pos 1) ≡ a
unfolding round_div
round-one (pos n) = ap pos (omega arith)
round-one (negsuc n) = ap (λ (m : ℕ). neg_ℤ (pos m)) (halved (suc n))
  where
    halved : (m : ℕ) → (2 * m + 1) / (2 * 1) ≡ m
    halved m = omega arith

-- ---- by division toward 0 and its remainder, as code has them

near_down : (a d : ℕ) → 0 < d → 2 * (a % d) < d → a / d ≡ near a d
near_down a d h l = near-is a d (a / d) h (omega (arith, div-add-mod' a d)) (omega (arith, div-add-mod' a d))

near_up : (a d : ℕ) → 0 < d → d ≤ 2 * (a % d) → suc (a / d) ≡ near a d
near_up a d h l = near-is a d (suc (a / d)) h (omega (arith, div-add-mod' a d)) (omega (arith, div-add-mod' a d, mod-lt a h))

pub quot-up : (a d : ℤ) → N d < P d → P d ≤ 2 * P (rem_z a d) → quot_z a d +ℤ pos 1 ≡ round_div a d
unfolding round_div
quot-up a (negsuc d) hd h = absurd (omega arith)
quot-up (pos a) (pos d) hd h = ap pos (omega (arith, near_up a d hd h))
quot-up (negsuc a) (pos d) hd h = absurd (omega (arith, neg-P (pos (suc a % d))))

pub quot-down : (a d : ℤ) → N d < P d → P d ≤ 2 * N (rem_z a d) → quot_z a d -ℤ pos 1 ≡ round_div a d
unfolding round_div
quot-down a (negsuc d) hd h = absurd (omega arith)
quot-down (pos a) (pos d) hd h = absurd (omega arith)
quot-down (negsuc a) (pos d) hd h =
    let u : suc (suc a / d) ≡ near (suc a) d = near_up (suc a) d hd (omega (arith, neg-N (pos (suc a % d)))) in
    ring (neg (var (pos (suc a / d))) ⊖ var (pos 1)) (neg (var (pos (near (suc a) d)))) (omega arith)

pub quot-keep : (a d : ℤ) → N d < P d → 2 * P (rem_z a d) < P d → 2 * N (rem_z a d) < P d → quot_z a d ≡ round_div a d
unfolding round_div
quot-keep a (negsuc d) hd h k = absurd (omega arith)
quot-keep (pos a) (pos d) hd h k = ap pos (near_down a d hd h)
quot-keep (negsuc a) (pos d) hd h k =
    ap (λ (q : ℕ). neg_ℤ (pos q)) (near_down (suc a) d hd (omega (arith, neg-N (pos (suc a % d)))))

pub not-above : (a d : ℤ) → P d ≤ N d → pos 0 ≡ round_div a d
unfolding round_div
not-above a (negsuc d) h = refl
not-above (pos a) (pos d) h =
    let z : d ≡ 0 = omega arith in
    rw z (ap pos (sym (div-zero (2 * a + 0))))
not-above (negsuc a) (pos d) h =
    let z : d ≡ 0 = omega arith in
    rw z (ap (λ (q : ℕ). neg_ℤ (pos q)) (sym (div-zero (2 * suc a + 0))))

-- ---- it is no larger than what is divided

near_le : (a d : ℕ) → near a d ≤ a
near_le a zero = omega (arith, div-zero (2 * a + 0))
near_le a (suc d) = go (dec_le (near a (suc d)) a)
  where
    go : Dec (near a (suc d) ≤ a) → near a (suc d) ≤ a
    go (yes y) = y
    go (no f) =
        let l : suc a ≤ near a (suc d) = omega (arith, f) in
        absurd (omega (arith, near-low a (suc d), mul-le-mul_right (suc d) l))

pub round-within : {A : ℕ} {a : ℤ} (d : ℤ) → Within A a → Within A (round_div a d)
unfolding round_div
round-within (negsuc d) h = record { above = omega arith; below = omega arith }
round-within {a = pos a} (pos d) h = record { above = omega (arith, near_le a d, h.above); below = omega arith }
round-within {a = negsuc a} (pos d) h =
    let q = pos (near (suc a) d) in
    record { above = omega (arith, neg-P q); below = omega (arith, neg-N q, near_le (suc a) d, h.below) }
