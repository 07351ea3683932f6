-- What the shifts and masks of the code compute: a mask, one bit taken as 0, one bit kept alone.
-- Here a bit is counted from 0: bit k is worth 2 ^ k.
use Rattle.std.specs.Prelude.{◌≡◌, ℕ, suc, ◌+◌, ◌-◌, ◌*◌, ◌/◌, ◌%◌, ◌^◌, ◌≤◌, ◌<◌}
use Rattle.std.proofs.Common.{sym, ap, ap₂, ◌∙◌, subst, mod-lt, mul_assoc, one-mul, suc-mul, add-zero, add-one, arith, lit<, pow_pos, pow_mono, shl_exact, shr-shr, shr_lt}
use Rattle.std.proofs.Math.Nat.{mod-mod, pow-succ'}
use Rattle.std.specs.Int.Bits.{bit_and, and_zero_r}
use Rattle.std.proofs.lemmas.Nat.{and_mask, and_block}
use Rattle.std.proofs.lemmas.Nat.Bits.{and_high}
use Rattle.std.proofs.Math.Pow.{split, high, ones_lt, ones_split, shr_mod}

-- the level of bit k
abbrev pub bit_at : ℕ → ℕ → ℕ
bit_at k t = t / 2 ^ k % 2

-- t with bit k taken as 0: what stands above it, and what stands below
abbrev pub cleared : ℕ → ℕ → ℕ
cleared k t = t / 2 ^ suc k * 2 ^ suc k + t % 2 ^ k

-- 0xffff_ffff >> (32 - w)
rest : (w : ℕ) → w ≤ 32 → 32 ≡ w + (32 - w)
rest w h = omega arith

pub mask_is : (w : ℕ) → w ≤ 32 → (2 ^ 32 - 1) / 2 ^ (32 - w) ≡ 2 ^ w - 1
mask_is w h =
    ap (λ (x : ℕ). (2 ^ x - 1) / 2 ^ (32 - w)) (rest w h) ∙ ap (λ (x : ℕ). x / 2 ^ (32 - w)) (ones_split w (32 - w)) ∙ high (2 ^ w - 1) (32 - w) (ones_lt (32 - w))

-- 1 << k
one_at : (k : ℕ) → k < 32 → 1 * 2 ^ k % 2 ^ 32 ≡ 2 ^ k
one_at k h = shl_exact 1 k 32 (lit< tt) (omega arith) ∙ one-mul (2 ^ k)

-- !(1 << k): all bits but bit k, as the j + 1 upper ones less the lowest of them, and the k lower ones
less_one : (A K r : ℕ) → 2 ≤ A → (A - 1) * K + r - K ≡ (A - 2) * K + r
less_one A K r h =
    let d : A - 1 ≡ suc (A - 2) = omega arith in
    let e : (A - 1) * K ≡ (A - 2) * K + K = ap (λ (x : ℕ). x * K) d ∙ suc-mul (A - 2) K in
    omega arith

all_but : (k j : ℕ) → 32 ≡ (j + 1) + k → (2 ^ 32 - 1) - 2 ^ k ≡ (2 ^ (j + 1) - 2) * 2 ^ k + (2 ^ k - 1)
all_but k j e =
    ap (λ (x : ℕ). (2 ^ x - 1) - 2 ^ k) e ∙ ap (λ (x : ℕ). x - 2 ^ k) (ones_split (j + 1) k)
    ∙ less_one (2 ^ (j + 1)) (2 ^ k) (2 ^ k - 1) (pow_mono {i = 1} {j = j + 1} (omega arith))

pub joined : (t k : ℕ) → t / 2 ^ k / 2 * 2 * 2 ^ k ≡ t / 2 ^ suc k * 2 ^ suc k
joined t k = mul_assoc (t / 2 ^ k / 2) 2 (2 ^ k) ∙ ap₂ ◌*◌ (shr-shr t k 1 ∙ ap (λ (x : ℕ). t / 2 ^ x) (add-one k)) (sym (pow-succ' 2 k))

clear-split : (t k j : ℕ) → t < 2 ^ 32 → 32 ≡ (j + 1) + k → bit_and t ((2 ^ 32 - 1) - 2 ^ k) ≡ cleared k t
clear-split t k j small e =
    ap₂ bit_and (sym (split t k)) (all_but k j e)
    ∙ and_block k (t / 2 ^ k) (2 ^ (j + 1) - 2) (t % 2 ^ k) (2 ^ k - 1) (mod-lt t (pow_pos k)) (ones_lt k)
    ∙ ap₂ (λ (x y : ℕ). x * 2 ^ k + y)
    (and_high (t / 2 ^ k) j 1 ∙ ap (λ (x : ℕ). x * 2) (shr_mod j 1 (shr_lt (j + 1) k (subst (λ (x : ℕ). t < 2 ^ x) e small))))
    (and_mask (t % 2 ^ k) k ∙ mod-mod t (2 ^ k))
    ∙ ap (λ (x : ℕ). x + t % 2 ^ k) (joined t k)

-- t & !(1 << k)
pub clear-is : (t k : ℕ) → t < 2 ^ 32 → k < 32 → bit_and t ((2 ^ 32 - 1) - 1 * 2 ^ k % 2 ^ 32) ≡ cleared k t
clear-is t k small h = ap (λ (x : ℕ). bit_and t ((2 ^ 32 - 1) - x)) (one_at k h) ∙ clear-split t k (31 - k) small (omega arith)

-- t & (1 << k)
pub test-is : (t k : ℕ) → bit_and t (2 ^ k) ≡ bit_at k t * 2 ^ k
test-is t k =
    ap₂ bit_and (sym (split t k)) (sym (one-mul (2 ^ k)) ∙ sym (add-zero (1 * 2 ^ k)))
    ∙ and_block k (t / 2 ^ k) 1 (t % 2 ^ k) 0 (mod-lt t (pow_pos k)) (pow_pos k)
    ∙ ap₂ (λ (x y : ℕ). x * 2 ^ k + y) (and_mask (t / 2 ^ k) 1) (and_zero_r (t % 2 ^ k))
    ∙ add-zero (t / 2 ^ k % 2 * 2 ^ k)
