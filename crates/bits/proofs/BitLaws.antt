-- The bits of a number: what shifts and masks do to each of them, and where the lowest stands that is set.
use Rattle.std.specs.Prelude.{◌≡◌, refl, Bool, true, false, ◌⊎◌, ℕ, zero, suc, ◌+◌, ◌-◌, ◌*◌, ◌/◌, ◌%◌, ◌^◌, ◌≤◌, ◌<◌, min, max, ltb}
use Rattle.std.proofs.Common.{sym, ap, ap₂, ◌∙◌, subst, inl, inr, suc-le-suc, mod-lt, div-one, one-mul, mul_assoc, div-add-mod', lt_of_le_of_lt, le_of_suc-le-suc, arith, ltb-true, ltb-false, lit<, pow_pos, pow-add, shr-shr, shr_lt}
use Rattle.std.proofs.Math.Nat.{div_self, div-eq_of_lt, zero-div, zero-mod, min-zero, min-eq_left, min-le_left, max-le}
use Rattle.std.proofs.Math.Arith.{lt-one, digits_mod}
use Rattle.std.specs.Int.Bits.{bit_and, bit_or, bit_xor, differ, and_step, or_step, xor_step, shifted_even}
use Rattle.std.proofs.lemmas.Nat.{and_shr, or_shr, xor_shr, shl-shr}
use Rattle.std.specs.Int.Count.{count_trailing_zeros, under}
use Rattle.std.proofs.Math.Pow.{pow-lt, field, mod-mod-pow}
use Rattle.bits.specs.Bits.{bit_at}

-- one of two numbers is below the other, or not
pub below_or : (k w : ℕ) → (k < w) ⊎ (w ≤ k)
below_or k w = by-test (ltb k w) refl
  where
    by-test : (b : Bool) → ltb k w ≡ b → (k < w) ⊎ (w ≤ k)
    by-test true e = inl (ltb-true k w e)
    by-test false e = inr (ltb-false k w e)

pub bit-lt : (k t : ℕ) → bit_at k t < 2
bit-lt k t = mod-lt (t / 2 ^ k) (lit< tt)

pub bit-first : (t : ℕ) → bit_at 0 t ≡ t % 2
bit-first t = ap (λ (x : ℕ). x % 2) (div-one t)

one_more_lem : (k : ℕ) → 1 + k ≡ suc k
one_more_lem k = omega arith

pub bit-next : (k t : ℕ) → bit_at (suc k) t ≡ bit_at k (t / 2)
bit-next k t = ap (λ (x : ℕ). t / 2 ^ x % 2) (sym (one_more_lem k)) ∙ ap (λ (x : ℕ). x % 2) (sym (shr-shr t 1 k))

pub bit-none : (k : ℕ) → bit_at k 0 ≡ 0
bit-none k = ap (λ (x : ℕ). x % 2) (zero-div (2 ^ k)) ∙ zero-mod 2

pub two : (b : ℕ) → b < 2 → (b ≡ 0) ⊎ (b ≡ 1)
two zero h = inl refl
two (suc zero) h = inr refl
two (suc (suc b)) h = absurd (too-big b h)
  where
    too-big : (x : ℕ) → suc (suc x) < 2 → ⊥
    too-big x h = omega arith

-- two numbers of n bits with the same bits are the same
pub bits-same : (n a b : ℕ) → a < 2 ^ n → b < 2 ^ n → ((k : ℕ) → k < n → bit_at k a ≡ bit_at k b) → a ≡ b
bits-same zero a b ha hb h = lt-one ha ∙ sym (lt-one hb)
bits-same (suc n) a b ha hb h =
    sym (div-add-mod' a 2)
    ∙ ap₂ (λ (x y : ℕ). x * 2 + y)
    (bits-same n (a / 2) (b / 2) (half n a ha) (half n b hb) (λ k l. sym (bit-next k a) ∙ h (suc k) (omega arith) ∙ bit-next k b))
    (sym (bit-first a) ∙ h 0 (omega arith) ∙ bit-first b)
    ∙ div-add-mod' b 2
  where
    half : (m x : ℕ) → x < 2 ^ suc m → x / 2 < 2 ^ m
    half m x l = shr_lt m 1 (subst (λ (y : ℕ). x < 2 ^ y) (omega arith) l)

-- ---- the operations, bit by bit
-- two digits and whether they differ, which with either of them gives the other
pub digits-differ : (x y : ℕ) → x < 2 → y < 2 → (differ x y < 2) × (differ x (differ x y) ≡ y) × (differ y (differ x y) ≡ x)
digits-differ x y hx hy = by_digits (two x hx) (two y hy)
  where
    by_digits : (x ≡ 0) ⊎ (x ≡ 1) → (y ≡ 0) ⊎ (y ≡ 1) → (differ x y < 2) × (differ x (differ x y) ≡ y) × (differ y (differ x y) ≡ x)
    by_digits (inl e) (inl f) = rw (e, f) (lit< tt, refl, refl)
    by_digits (inl e) (inr f) = rw (e, f) (lit< tt, refl, refl)
    by_digits (inr e) (inl f) = rw (e, f) (lit< tt, refl, refl)
    by_digits (inr e) (inr f) = rw (e, f) (lit< tt, refl, refl)

pub differ-none : (x : ℕ) → differ x 0 ≡ x
differ-none zero = refl
differ-none (suc x) = refl

and_last : (a b : ℕ) → bit_and a b % 2 ≡ min (a % 2) (b % 2)
and_last a b =
    ap (λ (x : ℕ). x % 2) (and_step a b)
    ∙ digits_mod (bit_and (a / 2) (b / 2)) (lt_of_le_of_lt (min-le_left (a % 2) (b % 2)) (mod-lt a (lit< tt)))

xor-last : (a b : ℕ) → bit_xor a b % 2 ≡ differ (a % 2) (b % 2)
xor-last a b =
    ap (λ (x : ℕ). x % 2) (xor_step a b) ∙ digits_mod (bit_xor (a / 2) (b / 2)) (digits-differ (a % 2) (b % 2) (mod-lt a (lit< tt)) (mod-lt b (lit< tt))).0

pub bit-and : (k a b : ℕ) → bit_at k (bit_and a b) ≡ min (bit_at k a) (bit_at k b)
bit-and k a b = ap (λ (x : ℕ). x % 2) (and_shr a b k) ∙ and_last (a / 2 ^ k) (b / 2 ^ k)

pub bit-xor : (k a b : ℕ) → bit_at k (bit_xor a b) ≡ differ (bit_at k a) (bit_at k b)
bit-xor k a b = ap (λ (x : ℕ). x % 2) (xor_shr a b k) ∙ xor-last (a / 2 ^ k) (b / 2 ^ k)

pub kept : (k a m : ℕ) → bit_at k m ≡ 1 → bit_at k (bit_and a m) ≡ bit_at k a
kept k a m h = bit-and k a m ∙ ap (min (bit_at k a)) h ∙ min-eq_left (le_of_suc-le-suc (bit-lt k a))

pub cut : (k a m : ℕ) → bit_at k m ≡ 0 → bit_at k (bit_and a m) ≡ 0
cut k a m h = bit-and k a m ∙ ap (min (bit_at k a)) h ∙ min-zero (bit_at k a)

-- ---- shifts
pub bit-shr : (k w a : ℕ) → bit_at k (a / 2 ^ w) ≡ bit_at (w + k) a
bit-shr k w a = ap (λ (x : ℕ). x % 2) (shr-shr a w k)

pub bit-shl : (k w a : ℕ) → bit_at (w + k) (a * 2 ^ w) ≡ bit_at k a
bit-shl k w a = sym (bit-shr k w (a * 2 ^ w)) ∙ ap (bit_at k) (shl-shr a w)

below-shl : (k n a : ℕ) → bit_at k (a * 2 ^ (suc n + k)) ≡ 0
below-shl k n a =
    ap (λ (x : ℕ). bit_at k (a * x)) (pow-add 2 (suc n) k) ∙ ap (bit_at k) (sym (mul_assoc a (2 ^ suc n) (2 ^ k)))
    ∙ ap (λ (x : ℕ). x % 2) (shl-shr (a * 2 ^ suc n) k) ∙ shifted_even a n

pub bit-shl-low : (k w a : ℕ) → k < w → bit_at k (a * 2 ^ w) ≡ 0
bit-shl-low k w a h = ap (λ (x : ℕ). bit_at k (a * 2 ^ x)) (whole k w h) ∙ below-shl k (w - suc k) a
  where
    whole : (k w : ℕ) → k < w → w ≡ suc (w - suc k) + k
    whole k w h = omega arith

-- ---- the low bits of a number are its own
pub bit-mod : (k n a : ℕ) → k < n → bit_at k (a % 2 ^ n) ≡ bit_at k a
bit-mod k n a h =
    ap (λ (x : ℕ). bit_at k (a % 2 ^ x)) (whole k n h) ∙ ap (λ (x : ℕ). x % 2) (field a (n - suc k + 1) k) ∙ mod-mod-pow (a / 2 ^ k) (n - suc k) 1
  where
    whole : (k n : ℕ) → k < n → n ≡ n - suc k + 1 + k
    whole k n h = omega arith

-- ---- or
or-last : (a b : ℕ) → bit_or a b % 2 ≡ max (a % 2) (b % 2)
or-last a b =
    ap (λ (x : ℕ). x % 2) (or_step a b)
    ∙ digits_mod (bit_or (a / 2) (b / 2)) (suc-le-suc (max-le (le_of_suc-le-suc (mod-lt a (lit< tt))) (le_of_suc-le-suc (mod-lt b (lit< tt)))))

pub bit-or : (k a b : ℕ) → bit_at k (bit_or a b) ≡ max (bit_at k a) (bit_at k b)
bit-or k a b = ap (λ (x : ℕ). x % 2) (or_shr a b k) ∙ or-last (a / 2 ^ k) (b / 2 ^ k)

-- ---- a number with one bit set
pub bit-power : (j : ℕ) → bit_at j (2 ^ j) ≡ 1
bit-power j = ap (λ (x : ℕ). x % 2) (div_self (pow_pos j))

pub bit-power-other : (k j : ℕ) → (k ≡ j → ⊥) → bit_at k (2 ^ j) ≡ 0
bit-power-other k j n = by_order (below_or k j)
  where
    by_order : (k < j) ⊎ (j ≤ k) → bit_at k (2 ^ j) ≡ 0
    by_order (inl h) = ap (bit_at k) (sym (one-mul (2 ^ j))) ∙ bit-shl-low k j 1 h
    by_order (inr h) = ap (λ (x : ℕ). x % 2) (div-eq_of_lt (pow-lt (above k j n h))) ∙ zero-mod 2
      where
        above : (k j : ℕ) → (k ≡ j → ⊥) → j ≤ k → j < k
        above k j n h = omega arith

-- ---- the zeros below the lowest bit that is set
-- t is its number, of a number of m bits
pub record LowestBit (m n t : ℕ) : Type 0 where
  pub within : t < m
  pub is_set : bit_at t n ≡ 1
  pub below : (i : ℕ) → i < t → bit_at i n ≡ 0

pub lowest-bit : (m k n : ℕ) → 0 < n → n < 2 ^ m → m ≤ k → LowestBit m n (count_trailing_zeros k n)
unfolding count_trailing_zeros
lowest-bit zero k n p h l = absurd (none (lt-one h) p)
  where
    none : {x : ℕ} → x ≡ 0 → 0 < x → ⊥
    none e q = omega arith
lowest-bit (suc m) zero n p h l = absurd (omega arith)
lowest-bit (suc m) (suc k) n p h l =
    by_last (two (n % 2) (mod-lt n (lit< tt)))
    (λ e. lowest-bit m k (n / 2) (omega arith) (shr_lt m 1 (subst (λ (y : ℕ). n < 2 ^ y) (omega arith) h)) (omega arith))
  where
    t : ℕ
    t = count_trailing_zeros k (n / 2)

    zeros : n % 2 ≡ 0 → LowestBit m (n / 2) t → (i : ℕ) → i < suc t → bit_at i n ≡ 0
    zeros e b zero g = bit-first n ∙ e
    zeros e b (suc i) g = bit-next i n ∙ b.below i (omega arith)

    by_last : (n % 2 ≡ 0) ⊎ (n % 2 ≡ 1) → (n % 2 ≡ 0 → LowestBit m (n / 2) t) → LowestBit (suc m) n (under (n % 2) t)
    by_last (inl e) half =
        let b = half e in
        rw e (record { within = omega arith; is_set = bit-next t n ∙ b.is_set; below = zeros e b })
    by_last (inr e) half = rw e (record { within = omega arith; is_set = bit-first n ∙ e; below = λ i g. absurd (omega arith) })
