-- The Gray code: the counting rule is exclusive or, and coding and decoding undo each other. Here a bit is counted from 0.
use Rattle.std.specs.Prelude.{◌≡◌, refl, ℕ, zero, suc, ◌+◌, ◌-◌, ◌*◌, ◌/◌, ◌%◌, ◌^◌, ◌≤◌, ◌<◌}
use Rattle.std.proofs.Common.{sym, ap, ap₂, ◌∙◌, subst, le_refl, lt_of_lt_of_le, mod-lt, zero-lt-suc, mul_assoc, pow-suc, div-one, mul-one, add-zero, zero-add, add-suc, div-lt_iff_lt-mul, div-add-mod', zero-mul, le-add_right, mod-eq_of_lt, div-le_self, add-one, arith, pow_pos, pow_mono}
use Rattle.std.proofs.Math.Nat.{mod-mod, pow-succ', add-mod, div-div-eq-div-mul, div-eq_of_lt}
use Rattle.std.proofs.Math.Numerals.{unary_clauses}
use Rattle.std.proofs.Math.Arith.{digits_lt, digits_div, digits_mod, bin_ind, lt-one}
use Rattle.std.specs.Int.Bits.{bit_xor, differ, xor_step}
use Rattle.std.proofs.lemmas.Nat.{xor_shr}
use Rattle.std.specs.Int.Count.{ones, ones_in, ones_step}
use Rattle.std.proofs.Math.Pow.{field, mod-mod-pow}
use Rattle.ssi.specs.Telegram.{gray_decoded, ones_above}
use Rattle.ssi.specs.Builder.{gray_code}

-- the counting rule without an upper end: the n low bits of the position
unfoldable pub gray_counted : ℕ → ℕ → ℕ
gray_counted zero t = 0
gray_counted (suc k) t = ones (t / 2 ^ k) % 2 * 2 ^ k + gray_counted k t

-- t xor t / 2 xor t / 4 and so on, n numbers
unfoldable pub xor_down : ℕ → ℕ → ℕ
xor_down zero t = 0
xor_down (suc n) t = bit_xor t (xor_down n (t / 2))

pub two_pos : 0 < 2
two_pos = zero-lt-suc 1

pub half_lt : (n t : ℕ) → t < 2 ^ suc n → t / 2 < 2 ^ n
half_lt n t h = (div-lt_iff_lt-mul two_pos).1 (subst (λ (x : ℕ). t < x) (pow-suc 2 n) h)

pub counted-lt : (k t : ℕ) → gray_counted k t < 2 ^ k
unfolding gray_counted
counted-lt zero t = zero-lt-suc 0
counted-lt (suc k) t = subst (λ (x : ℕ). gray_counted (suc k) t < x) (sym (pow-succ' 2 k)) (digits_lt (mod-lt (ones (t / 2 ^ k)) two_pos) (counted-lt k t))

-- ---- the same position, its lowest bit first
regroup : (x y b : ℕ) → x * 2 + (y * 2 + b) ≡ (x + y) * 2 + b
regroup x y b = omega arith

at_top : (n t : ℕ) → ones (t / 2 ^ suc n) % 2 * 2 ^ suc n ≡ ones (t / 2 / 2 ^ n) % 2 * 2 ^ n * 2
at_top n t =
    ap₂ (λ (x y : ℕ). ones x % 2 * y) (ap (λ (x : ℕ). t / x) (pow-succ' 2 n) ∙ sym (div-div-eq-div-mul t 2 (2 ^ n))) (pow-suc 2 n)
    ∙ sym (mul_assoc (ones (t / 2 / 2 ^ n) % 2) (2 ^ n) 2)

pub low_first : (n t : ℕ) → gray_counted (suc n) t ≡ gray_counted n (t / 2) * 2 + ones t % 2
unfolding gray_counted
low_first zero t = add-zero (ones (t / 1) % 2 * 1) ∙ mul-one (ones (t / 1) % 2) ∙ ap (λ (x : ℕ). ones x % 2) (div-one t) ∙ sym (zero-add (ones t % 2))
low_first (suc n) t = ap₂ ◌+◌ (at_top n t) (low_first n t) ∙ regroup (ones (t / 2 / 2 ^ n) % 2 * 2 ^ n) (gray_counted n (t / 2)) (ones t % 2)

pub half-counted : (n t : ℕ) → gray_counted (suc n) t / 2 ≡ gray_counted n (t / 2)
half-counted n t = ap (λ (x : ℕ). x / 2) (low_first n t) ∙ digits_div (gray_counted n (t / 2)) (mod-lt (ones t) two_pos)

pub odd-counted : (n t : ℕ) → gray_counted (suc n) t % 2 ≡ ones t % 2
odd-counted n t = ap (λ (x : ℕ). x % 2) (low_first n t) ∙ digits_mod (gray_counted n (t / 2)) (mod-lt (ones t) two_pos)

ones-zero : ones 0 ≡ 0
unfolding ones
ones-zero = refl

low_bit_lem : (n t : ℕ) → t < 2 ^ n → gray_counted n t % 2 ≡ ones t % 2
unfolding gray_counted
low_bit_lem zero t h = sym (ap (λ (x : ℕ). x % 2) (ap ones (lt-one h) ∙ ones-zero))
low_bit_lem (suc n) t h = odd-counted n t

-- THE RULE, bit by bit: bit k of the position is 1 when the number of ones at bit k of t and above is odd
pub shift-counted : (n k t : ℕ) → gray_counted (n + k) t / 2 ^ k ≡ gray_counted n (t / 2 ^ k)
shift-counted n zero t = div-one (gray_counted (n + 0) t) ∙ ap₂ gray_counted (add-zero n) (sym (div-one t))
shift-counted n (suc k) t =
    ap₂ (λ (x y : ℕ). gray_counted x t / y) (add-suc n k) (pow-succ' 2 k) ∙ sym (div-div-eq-div-mul (gray_counted (suc (n + k)) t) 2 (2 ^ k))
    ∙ ap (λ (x : ℕ). x / 2 ^ k) (half-counted (n + k) t) ∙ shift-counted n k (t / 2)
    ∙ ap (gray_counted n) (div-div-eq-div-mul t 2 (2 ^ k) ∙ ap (λ (x : ℕ). t / x) (sym (pow-succ' 2 k)))

up_to : (n k : ℕ) → k < n → n ≡ suc (n - suc k) + k
up_to n k h = omega arith

pub bit-counted : (n k t : ℕ) → k < n → gray_counted n t / 2 ^ k % 2 ≡ ones (t / 2 ^ k) % 2
bit-counted n k t h =
    ap (λ (x : ℕ). gray_counted x t / 2 ^ k % 2) (up_to n k h) ∙ ap (λ (x : ℕ). x % 2) (shift-counted (suc (n - suc k)) k t) ∙ odd-counted (n - suc k) (t / 2 ^ k)

-- bits above a telegram's own say nothing
pub counted-wide : (w j t : ℕ) → t < 2 ^ w → gray_counted (w + j) t ≡ gray_counted w t
unfolding gray_counted
counted-wide w zero t h = ap (λ (x : ℕ). gray_counted x t) (add-zero w)
counted-wide w (suc j) t h =
    ap (λ (x : ℕ). gray_counted x t) (add-suc w j)
    ∙ ap (λ (x : ℕ). ones x % 2 * 2 ^ (w + j) + gray_counted (w + j) t) (div-eq_of_lt (lt_of_lt_of_le h (pow_mono (le-add_right w j))))
    ∙ ap (λ (x : ℕ). x % 2 * 2 ^ (w + j) + gray_counted (w + j) t) ones-zero
    ∙ ap (λ (x : ℕ). x + gray_counted (w + j) t) (zero-mul (2 ^ (w + j))) ∙ zero-add (gray_counted (w + j) t) ∙ counted-wide w j t h

-- ---- digits
too-big : (x : ℕ) → suc (suc x) < 2 → ⊥
too-big x h = omega arith

pub small-sum : (x y : ℕ) → x < 2 → y < 2 → (x + y) % 2 ≡ differ x y
small-sum zero zero h k = refl
small-sum zero (suc zero) h k = refl
small-sum zero (suc (suc y)) h k = absurd (too-big y k)
small-sum (suc zero) zero h k = refl
small-sum (suc zero) (suc zero) h k = refl
small-sum (suc zero) (suc (suc y)) h k = absurd (too-big y k)
small-sum (suc (suc x)) y h k = absurd (too-big x h)

parity : (a b : ℕ) → (a + b) % 2 ≡ differ (a % 2) (b % 2)
parity a b = add-mod a b 2 ∙ small-sum (a % 2) (b % 2) (mod-lt a two_pos) (mod-lt b two_pos)

differ_back : (x y : ℕ) → x < 2 → y < 2 → differ (differ x y) y ≡ x
differ_back zero zero h k = refl
differ_back zero (suc zero) h k = refl
differ_back zero (suc (suc y)) h k = absurd (too-big y k)
differ_back (suc zero) zero h k = refl
differ_back (suc zero) (suc zero) h k = refl
differ_back (suc zero) (suc (suc y)) h k = absurd (too-big y k)
differ_back (suc (suc x)) y h k = absurd (too-big x h)

ones_bit : (t : ℕ) → ones t % 2 ≡ differ (t % 2) (ones (t / 2) % 2)
ones_bit t = ap (λ (x : ℕ). x % 2) (ones_step t) ∙ parity (t % 2) (ones (t / 2)) ∙ ap (λ (x : ℕ). differ x (ones (t / 2) % 2)) (mod-mod t 2)

-- ---- the position's telegram is the telegram
pub code-counted : (n t : ℕ) → t < 2 ^ n → gray_code (gray_counted n t) ≡ t
unfolding gray_counted
code-counted zero t h = sym (lt-one h)
code-counted (suc n) t h =
    xor_step (gray_counted (suc n) t) (gray_counted (suc n) t / 2)
    ∙ ap₂ (λ (x y : ℕ). bit_xor x (x / 2) * 2 + differ y (x % 2)) (half-counted n t) (odd-counted n t)
    ∙ ap₂ (λ (x y : ℕ). x * 2 + y) (code-counted n (t / 2) (half_lt n t h))
    (ap₂ differ (ones_bit t) (low_bit_lem n (t / 2) (half_lt n t h)) ∙ differ_back (t % 2) (ones (t / 2) % 2) (mod-lt t two_pos) (mod-lt (ones (t / 2)) two_pos))
    ∙ div-add-mod' t 2

-- ---- the telegram's position is the position
mixed : (d X x y o p : ℕ) → d ≡ (x + y) % 2 → X % 2 ≡ (o + p) % 2 → (d + X) % 2 ≡ (x + o + (y + p)) % 2
mixed d X x y o p a b = omega arith

ones-xor : (a b : ℕ) → ones (bit_xor a b) % 2 ≡ (ones a + ones b) % 2
ones-xor = bin_ind (λ (n : ℕ). (b : ℕ) → ones (bit_xor n b) % 2 ≡ (ones n + ones b) % 2)
    (λ b. sym (ap (λ (x : ℕ). (x + ones b) % 2) ones-zero ∙ ap (λ (x : ℕ). x % 2) (zero-add (ones b))))
    (λ n ih b.
    let X = bit_xor (n / 2) (b / 2) in
    let d = differ (n % 2) (b % 2) in
    let is : d ≡ (n % 2 + b % 2) % 2 = sym (small-sum (n % 2) (b % 2) (mod-lt n two_pos) (mod-lt b two_pos)) in
    let small : d < 2 = subst (λ (x : ℕ). x < 2) (sym is) (mod-lt (n % 2 + b % 2) two_pos) in
    ap (λ (x : ℕ). x % 2) (ap ones (xor_step n b) ∙ ones_step (X * 2 + d) ∙ ap₂ (λ (x y : ℕ). x + ones y) (digits_mod X small) (digits_div X small))
    ∙ mixed d (ones X) (n % 2) (b % 2) (ones (n / 2)) (ones (b / 2)) is (ih (b / 2))
    ∙ sym (ap₂ (λ (x y : ℕ). (x + y) % 2) (ones_step n) (ones_step b)))

twice : (x o r : ℕ) → x ≡ r % 2 → (x + o + o) % 2 ≡ r % 2
twice x o r h = omega arith

odd_code : (p : ℕ) → ones (gray_code p) % 2 ≡ p % 2
odd_code p = ones-xor p (p / 2) ∙ ap (λ (x : ℕ). (x + ones (p / 2)) % 2) (ones_step p) ∙ twice (p % 2) (ones (p / 2)) p refl

pub counted-code : (n p : ℕ) → p < 2 ^ n → gray_counted n (gray_code p) ≡ p
unfolding gray_counted
counted-code zero p h = sym (lt-one h)
counted-code (suc n) p h =
    low_first n (gray_code p) ∙ ap₂ (λ (x y : ℕ). gray_counted n x * 2 + y) (xor_shr p (p / 2) 1) (odd_code p)
    ∙ ap (λ (x : ℕ). x * 2 + p % 2) (counted-code n (p / 2) (half_lt n p h)) ∙ div-add-mod' p 2

-- ---- exclusive or of the telegram and all its shifts
mutual-step : (n t : ℕ) → t < 2 ^ suc n → bit_xor (t / 2) (gray_counted n (t / 2) / 2) ≡ gray_counted n (t / 2) → bit_xor t (gray_counted n (t / 2)) ≡ gray_counted (suc n) t
mutual-step n t h ih =
    xor_step t (gray_counted n (t / 2))
    ∙ ap₂ (λ (x y : ℕ). x * 2 + y) ih (ap (differ (t % 2)) (low_bit_lem n (t / 2) (half_lt n t h)) ∙ sym (ones_bit t))
    ∙ sym (low_first n t)

fold : (n t : ℕ) → t < 2 ^ n → bit_xor t (gray_counted n t / 2) ≡ gray_counted n t
unfolding gray_counted
fold zero t h = ap (λ (x : ℕ). bit_xor x 0) (lt-one h)
fold (suc n) t h = ap (bit_xor t) (half-counted n t) ∙ mutual-step n t h (fold n (t / 2) (half_lt n t h))

pub counted-xor : (n t : ℕ) → t < 2 ^ n → gray_counted n t ≡ xor_down n t
unfolding gray_counted xor_down
counted-xor zero t h = refl
counted-xor (suc n) t h = sym (mutual-step n t h (fold n (t / 2) (half_lt n t h))) ∙ ap (bit_xor t) (counted-xor n (t / 2) (half_lt n t h))

-- ---- the count up to bit N
-- it is the count of all ones in the N low bits
step-own : (d n : ℕ) → ones (n % 2 ^ suc d) ≡ n % 2 + ones (n / 2 % 2 ^ d)
step-own d n =
    let w : 2 ^ suc d ≡ 2 ^ (d + 1) = ap (λ (x : ℕ). 2 ^ x) (sym (add-one d)) in
    ap (λ (x : ℕ). ones (n % x)) w ∙ ones_step (n % 2 ^ (d + 1)) ∙ ap₂ (λ (x y : ℕ). x + ones y) (mod-mod-pow n d 1) (field n d 1)

pub ones-own : (d n : ℕ) → ones_in d n ≡ ones (n % 2 ^ d)
unfolding ones_in
ones-own zero n = sym (ap ones (lt-one (mod-lt n (pow_pos 0))) ∙ ones-zero)
ones-own (suc d) n = ap (λ (x : ℕ). n % 2 + x) (ones-own d (n / 2)) ∙ sym (step-own d n)

over : (N k : ℕ) → k ≤ N → N ≡ (N - k) + k
over N k h = omega arith

pub ones_above_lem : (N k t : ℕ) → k ≤ N → ones_above N k t ≡ ones (t % 2 ^ N / 2 ^ k)
ones_above_lem N k t h =
    ones-own (N - k) (t / 2 ^ k) ∙ ap ones (sym (field t (N - k) k)) ∙ ap (λ (x : ℕ). ones (t % 2 ^ x / 2 ^ k)) (sym (over N k h))

weaker : (N k : ℕ) → k < N → k ≤ N
weaker N k h = omega arith

pub decoded-counted : (N k t : ℕ) → k ≤ N → gray_decoded N k t ≡ gray_counted k (t % 2 ^ N)
unfolding gray_decoded gray_counted
decoded-counted N zero t l = refl
decoded-counted N (suc k) t l = ap₂ (λ (x y : ℕ). x % 2 * 2 ^ k + y) (ones_above_lem N k t (weaker N k l)) (decoded-counted N k t (weaker N k l))

pub decoded-own : (N t : ℕ) → t < 2 ^ N → gray_decoded N N t ≡ gray_counted N t
decoded-own N t h = decoded-counted N N t (le_refl N) ∙ ap (gray_counted N) (mod-eq_of_lt h)

-- ---- the rule in the words of exclusive or, bit by bit, and in the code's loop
-- the position of a Gray telegram is t xor t / 2 xor t / 4 and so on
pub decoded-xor : (N t : ℕ) → t < 2 ^ N → gray_decoded N N t ≡ xor_down N t
decoded-xor N t h = decoded-own N t h ∙ counted-xor N t h

-- bit k of the position is 1 when the number of ones at bit k of t and above, up to bit N, is odd
pub bit-decoded : (N k t : ℕ) → k < N → gray_decoded N N t / 2 ^ k % 2 ≡ ones_above N k t % 2
bit-decoded N k t h =
    ap (λ (x : ℕ). x / 2 ^ k % 2) (decoded-counted N N t (le_refl N)) ∙ bit-counted N k (t % 2 ^ N) h
    ∙ ap (λ (x : ℕ). x % 2) (sym (ones_above_lem N k t (weaker N k h)))

-- the position without its k low bits, one bit more at a time from the top down
pub decoded-next : (N k t : ℕ) → 0 < k → k ≤ N → 2 * (gray_decoded N N t / 2 ^ k) + ones (t % 2 ^ N / 2 ^ (k - 1)) % 2 ≡ gray_decoded N N t / 2 ^ (k - 1)
decoded-next N zero t z h = absurd (omega arith)
decoded-next N (suc k) t z h =
    let D = gray_decoded N N t in
    simp unary_clauses
    (rw (← div-div-eq-div-mul D (2 ^ k) 2, ← ones_above_lem N k t (weaker N k h), ← bit-decoded N k t h) (omega (arith, div-add-mod' (D / 2 ^ k) 2)))

-- the position has N bits, and fits 32, whole or divided
pub decoded-lt : (N t : ℕ) → gray_decoded N N t < 2 ^ N
decoded-lt N t = rw (decoded-counted N N t (le_refl N)) (counted-lt N (t % 2 ^ N))

pub decoded-fits : (N j t : ℕ) → N ≤ 32 → gray_decoded N N t / j < 2 ^ 32
decoded-fits N j t h = omega (arith, div-le_self (gray_decoded N N t) j, decoded-lt N t, pow_mono h)
