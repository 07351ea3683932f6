-- The field and the error bit of a telegram, each by itself and together, in numbers.
-- The field is the w bits above the k low ones; e is the error bit, counted from 1, 0 for none; N is the number of bits.
use Rattle.std.specs.Prelude.{◌≡◌, refl, Bool, true, false, ◌⊎◌, ℕ, zero, suc, ◌+◌, ◌-◌, ◌*◌, ◌/◌, ◌%◌, ◌^◌, ◌≤◌, ◌<◌, ltb}
use Rattle.std.proofs.Common.{sym, ap, ap₂, ◌∙◌, subst, inl, inr, ⊎_elim, lt_of_lt_of_le, lt_of_le_of_lt, mod-lt, mod-eq_of_lt, mul_assoc, add-mul, one-mul, zero-mul, add-zero, div-add-mod', zero-add, suc-add, arith, lit<, ltb-true, ltb-false, pow_pos, pow_mono, pow-add, shl_lt, shr_lt, shl_exact}
use Rattle.std.proofs.Math.Nat.{div-eq_of_lt, mul-mod_left, add-mul-div_right}
use Rattle.std.proofs.Math.Arith.{lt-one}
use Rattle.std.specs.Int.Bits.{bit_or, bit_and, shifted_even, or_zero_r}
use Rattle.std.proofs.lemmas.Nat.{xor_lt, or_lt, or_disjoint, or_shr, or_mod, shl-shr, shr_le, mod-pow-add}
use Rattle.std.proofs.Math.Pow.{split, high, shr_mod, recompose}
use Rattle.ssi.specs.Telegram.{level_of, worth, without_bit, gray_decoded, decoded}
use Rattle.ssi.specs.Builder.{gray_code, coded}
use Rattle.ssi.specs.FieldLaws.{bit_at, cleared, joined, test-is}
use Rattle.ssi.proofs.GrayLaws.{gray_counted, counted-lt, counted-wide, shift-counted, code-counted, counted-code, decoded-own}

-- ---- one bit taken as 0
-- a number is itself without the bit, and the bit
clear-sum : (k t : ℕ) → cleared k t + bit_at k t * 2 ^ k ≡ t
clear-sum k t =
    let A = t / 2 ^ k in
    let e1 : A / 2 * 2 * 2 ^ k ≡ t / 2 ^ suc k * 2 ^ suc k = joined t k in
    let e2 : A / 2 * 2 * 2 ^ k + A % 2 * 2 ^ k ≡ A * 2 ^ k = sym (add-mul (A / 2 * 2) (A % 2) (2 ^ k)) ∙ ap (λ (x : ℕ). x * 2 ^ k) (div-add-mod' A 2) in
    let e3 : A * 2 ^ k + t % 2 ^ k ≡ t = split t k in
    omega arith

minus : (a b t : ℕ) → a + b ≡ t → t - b ≡ a
minus a b t h = omega arith

pub without-cleared : (k t : ℕ) → without_bit (suc k) t ≡ cleared k t
without-cleared k t = minus (cleared k t) (bit_at k t * 2 ^ k) t (clear-sum k t)

pub without-sum : (e t : ℕ) → without_bit e t + level_of e t * worth e ≡ t
without-sum zero t = omega arith
without-sum (suc k) t = ap (λ (x : ℕ). x + bit_at k t * 2 ^ k) (without-cleared k t) ∙ clear-sum k t

part-le : (a b t : ℕ) → a + b ≡ t → a ≤ t
part-le a b t h = omega arith

pub without-le : (e t : ℕ) → without_bit e t ≤ t
without-le e t = part-le (without_bit e t) (level_of e t * worth e) t (without-sum e t)

pub level-lt : (e t : ℕ) → level_of e t < 2
level-lt zero t = lit< tt
level-lt (suc k) t = mod-lt (t / 2 ^ k) (lit< tt)

pub level-without : (e t : ℕ) → level_of e (without_bit e t) ≡ 0
level-without zero t = refl
level-without (suc k) t =
    ap (bit_at k) (without-cleared k t ∙ ap (λ (x : ℕ). x + t % 2 ^ k) (sym (joined t k)))
    ∙ ap (λ (x : ℕ). x % 2) (high (t / 2 ^ k / 2 * 2) k (mod-lt t (pow_pos k))) ∙ mul-mod_left (t / 2 ^ k / 2) 2

-- ---- one bit put beside a number that does not have it
beside : (k x v : ℕ) → v < 2 → bit_at k x ≡ 0 → bit_or x (v * 2 ^ k) ≡ x + v * 2 ^ k
beside k x zero h z = ap (bit_or x) (zero-mul (2 ^ k)) ∙ or_zero_r x ∙ sym (add-zero x) ∙ ap (λ (y : ℕ). x + y) (sym (zero-mul (2 ^ k)))
beside k x (suc zero) h z =
    or_disjoint x (1 * 2 ^ k) (ap (bit_and x) (one-mul (2 ^ k)) ∙ test-is x k ∙ ap (λ (y : ℕ). y * 2 ^ k) z ∙ zero-mul (2 ^ k))
beside k x (suc (suc v)) h z = absurd (too-big v h)
  where
    too-big : (x : ℕ) → suc (suc x) < 2 → ⊥
    too-big x h = omega arith

pub mark-lt : (e N x v : ℕ) → e ≤ N → v < 2 → level_of e x ≡ 0 → x < 2 ^ N → x + v * worth e < 2 ^ N
mark-lt zero N x v l b z h = subst (λ (y : ℕ). x + y < 2 ^ N) (sym (times_zero v)) (subst (λ (y : ℕ). y < 2 ^ N) (sym (add-zero x)) h)
  where
    times_zero : (v : ℕ) → v * 0 ≡ 0
    times_zero v = omega arith
mark-lt (suc k) N x v l b z h =
    subst (λ (y : ℕ). y < 2 ^ N) (beside k x v b z) (or_lt N x (v * 2 ^ k) h (lt_of_lt_of_le (shl_lt 1 k b) (pow_mono (omega arith))))

-- as the code puts it
pub mark-is : (e x v : ℕ) → 1 ≤ e → e ≤ 32 → v < 2 → level_of e x ≡ 0 → bit_or x (v * 2 ^ (e - 1) % 2 ^ 32) ≡ x + v * worth e
mark-is zero x v o l b z = absurd (not-one o)
  where
    not-one : 1 ≤ 0 → ⊥
    not-one h = omega arith
mark-is (suc k) x v o l b z =
    ap (λ (y : ℕ). bit_or x (v * 2 ^ y % 2 ^ 32)) (less k) ∙ ap (bit_or x) (shl_exact 1 k 32 b (omega arith)) ∙ beside k x v b z
  where
    less : (k : ℕ) → suc k - 1 ≡ k
    less k = omega arith

-- it reads as it was put, and is taken away again
cancelled : (a b c x : ℕ) → a + b ≡ x + c → b ≡ c → a ≡ x
cancelled a b c x h e = omega arith

odd-next : (A v : ℕ) → A % 2 ≡ 0 → v < 2 → (A + v) % 2 ≡ v
odd-next A v h b = omega arith

pub level-mark : (e x v : ℕ) → 1 ≤ e → v < 2 → level_of e x ≡ 0 → level_of e (x + v * worth e) ≡ v
level-mark zero x v o b z = absurd (not-one o)
  where
    not-one : 1 ≤ 0 → ⊥
    not-one h = omega arith
level-mark (suc k) x v o b z = ap (λ (y : ℕ). y % 2) (add-mul-div_right x v (pow_pos k)) ∙ odd-next (x / 2 ^ k) v z b

pub without-mark : (e x v : ℕ) → v < 2 → level_of e x ≡ 0 → without_bit e (x + v * worth e) ≡ x
without-mark zero x v b z = omega arith
without-mark (suc k) x v b z =
    let y = x + v * 2 ^ k in
    cancelled (without_bit (suc k) y) (bit_at k y * 2 ^ k) (v * 2 ^ k) x (without-sum (suc k) y) (ap (λ (u : ℕ). u * 2 ^ k) (level-mark (suc k) x v (omega arith) b z))

-- one bit of two numbers together
bit-or : (i a b : ℕ) → bit_at i (bit_or a b) ≡ bit_or (bit_at i a) (bit_at i b)
bit-or i a b = ap (λ (x : ℕ). x % 2) (or_shr a b i) ∙ or_mod (a / 2 ^ i) (b / 2 ^ i) 1

-- ---- a field's telegram has no bit set outside it
apart : (k e : ℕ) → e < k → k ≡ suc (k - suc e) + e
apart k e h = omega arith

bit_below : (q k e : ℕ) → e < k → bit_at e (q * 2 ^ k) ≡ 0
bit_below q k e h =
    ap (λ (x : ℕ). q * 2 ^ x / 2 ^ e % 2) (apart k e h) ∙ ap (λ (x : ℕ). q * x / 2 ^ e % 2) (pow-add 2 (suc (k - suc e)) e)
    ∙ ap (λ (x : ℕ). x / 2 ^ e % 2) (sym (mul_assoc q (2 ^ suc (k - suc e)) (2 ^ e))) ∙ ap (λ (x : ℕ). x % 2) (shl-shr (q * 2 ^ suc (k - suc e)) e)
    ∙ shifted_even q (k - suc e)

bit-above : (q k w e : ℕ) → q < 2 ^ w → w + k ≤ e → bit_at e (q * 2 ^ k) ≡ 0
bit-above q k w e h l = ap (λ (x : ℕ). x % 2) (div-eq_of_lt (lt_of_lt_of_le (shl_lt w k h) (pow_mono l)))

-- bit e stands outside the field
abbrev pub Outside : ℕ → ℕ → ℕ → Type 0
Outside e k w = (e ≤ k) ⊎ (w + k < e)

pub level-outside : (q k w e : ℕ) → q < 2 ^ w → Outside e k w → level_of e (q * 2 ^ k) ≡ 0
level-outside q k w zero h o = refl
level-outside q k w (suc e) h (inl a) = bit_below q k e a
level-outside q k w (suc e) h (inr b) = bit-above q k w e h (omega arith)

-- a bit alone has no other bit set
other-bit : (i k v : ℕ) → v < 2 → (i ≡ k → ⊥) → bit_at i (v * 2 ^ k) ≡ 0
other-bit i k v b n = ⊎_elim (λ h. bit_below v k i h) (λ h. bit-above v k 1 i b h) (sides i k n)
  where
    tested : (i k : ℕ) (t : Bool) → ltb i k ≡ t → (i ≡ k → ⊥) → (i < k) ⊎ (1 + k ≤ i)
    tested i k true e n = inl (ltb-true i k e)
    tested i k false e n = inr (omega (arith, ltb-false i k e, n))

    sides : (i k : ℕ) → (i ≡ k → ⊥) → (i < k) ⊎ (1 + k ≤ i)
    sides i k n = tested i k (ltb i k) refl n

-- a bit put beside a number leaves every other bit as it is
pub level-beside : (n e x v : ℕ) → (n ≡ e → ⊥) → v < 2 → level_of e x ≡ 0 → level_of n (x + v * worth e) ≡ level_of n x
level-beside zero e x v d b z = refl
level-beside (suc i) zero x v d b z = ap (bit_at i) (no-mark x v)
  where
    no-mark : (x v : ℕ) → x + v * 0 ≡ x
    no-mark x v = omega arith
level-beside (suc i) (suc k) x v d b z =
    ap (bit_at i) (sym (beside k x v b z)) ∙ bit-or i x (v * 2 ^ k) ∙ ap (bit_or (bit_at i x)) (other-bit i k v b (λ e. d (ap suc e))) ∙ or_zero_r (bit_at i x)

-- ---- the field, read and built
upper : (k w N : ℕ) → w + k ≤ N → N - k ≡ w + (N - k - w)
upper k w N h = omega arith

whole : (k w N : ℕ) → w + k ≤ N → N ≡ (N - k) + k
whole k w N h = omega arith

pub coded-lt : (f w p : ℕ) → p < 2 ^ w → coded f p < 2 ^ w
coded-lt zero w p h = xor_lt w p (p / 2) h (lt_of_le_of_lt (shr_le p 1) h)
coded-lt (suc f) w p h = h

-- the counting rule at a field with nothing set above it needs the field's bits alone
gray-shifted : (N k w t : ℕ) → w + k ≤ N → t < 2 ^ (w + k) → gray_decoded N N t / 2 ^ k ≡ gray_counted w (t / 2 ^ k)
gray-shifted N k w t l h =
    ap (λ (x : ℕ). x / 2 ^ k) (decoded-own N t (lt_of_lt_of_le h (pow_mono l))) ∙ ap (λ (x : ℕ). gray_counted x t / 2 ^ k) (whole k w N l)
    ∙ shift-counted (N - k) k t ∙ ap (λ (x : ℕ). gray_counted x (t / 2 ^ k)) (upper k w N l) ∙ counted-wide w (N - k - w) (t / 2 ^ k) (shr_lt w k h)

pub field-read : (f N k w p : ℕ) → w + k ≤ N → p < 2 ^ w → decoded f N (coded f p * 2 ^ k) / 2 ^ k % 2 ^ w ≡ p
field-read zero N k w p l h =
    ap (λ (x : ℕ). x % 2 ^ w)
    (gray-shifted N k w (gray_code p * 2 ^ k) l (shl_lt w k (coded-lt zero w p h)) ∙ ap (gray_counted w) (shl-shr (gray_code p) k) ∙ counted-code w p h)
    ∙ mod-eq_of_lt h
field-read (suc f) N k w p l h = ap (λ (x : ℕ). x % 2 ^ w) (shl-shr p k) ∙ mod-eq_of_lt h

back : (k t : ℕ) → t % 2 ^ k ≡ 0 → t / 2 ^ k * 2 ^ k ≡ t
back k t z = sym (add-zero (t / 2 ^ k * 2 ^ k)) ∙ ap (λ (x : ℕ). t / 2 ^ k * 2 ^ k + x) (sym z) ∙ split t k

pub field-built : (f N k w t : ℕ) → w + k ≤ N → t % 2 ^ k ≡ 0 → t < 2 ^ (w + k) → coded f (decoded f N t / 2 ^ k % 2 ^ w) * 2 ^ k ≡ t
field-built zero N k w t l z h =
    let q = t / 2 ^ k in
    ap (λ (x : ℕ). gray_code x * 2 ^ k) (ap (λ (x : ℕ). x % 2 ^ w) (gray-shifted N k w t l h) ∙ mod-eq_of_lt (counted-lt w q))
    ∙ ap (λ (x : ℕ). x * 2 ^ k) (code-counted w q (shr_lt w k h)) ∙ back k t z
field-built (suc f) N k w t l z h = ap (λ (x : ℕ). x * 2 ^ k) (shr_mod w k h) ∙ back k t z

-- ---- bits that are 0, one by one
no_bits : (a b c : ℕ) → a ≡ 0 → b ≡ 0 → a * c + b ≡ 0
no_bits a b c h z = ap₂ (λ (x y : ℕ). x * c + y) h z ∙ add-zero (0 * c) ∙ zero-mul c

one_more_lem : (m : ℕ) → suc m ≡ 1 + m
one_more_lem m = omega arith

pub low-zero : (k t : ℕ) → ((i : ℕ) → i < k → bit_at i t ≡ 0) → t % 2 ^ k ≡ 0
low-zero zero t h = lt-one (mod-lt t (pow_pos 0))
low-zero (suc k) t h = ap (λ (x : ℕ). t % 2 ^ x) (one_more_lem k) ∙ mod-pow-add t 1 k ∙ no_bits (bit_at k t) (t % 2 ^ k) (2 ^ k) (h k (omega arith)) (low-zero k t (λ i l. h i (omega arith)))

below_top : (m t : ℕ) → t < 2 ^ suc m → bit_at m t ≡ 0 → t < 2 ^ m
below_top m t h z =
    let whole : t / 2 ^ m % 2 * 2 ^ m + t % 2 ^ m ≡ t = recompose 1 m (subst (λ (x : ℕ). t < 2 ^ x) (one_more_lem m) h) in
    let none : t / 2 ^ m % 2 * 2 ^ m ≡ 0 = ap (λ (x : ℕ). x * 2 ^ m) z ∙ zero-mul (2 ^ m) in
    let low : t % 2 ^ m < 2 ^ m = mod-lt t (pow_pos m) in
    omega arith

pub high_zero : (d j t : ℕ) → t < 2 ^ (d + j) → ((i : ℕ) → j ≤ i → i < d + j → bit_at i t ≡ 0) → t < 2 ^ j
high_zero zero j t h b = subst (λ (x : ℕ). t < 2 ^ x) (zero-add j) h
high_zero (suc d) j t h b = high_zero d j t (below_top (d + j) t (subst (λ (x : ℕ). t < 2 ^ x) (suc-add d j) h) (b (d + j) (omega arith) (omega arith))) (λ i l m. b i l (omega arith))
