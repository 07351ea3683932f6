-- What the arms of the code compute, as the definitions say it: each is one case of a definition.
use mathlib.Core.Path.{◌≡◌, refl, sym, ap, ap₂, ◌∙◌}
use mathlib.Core.Bool.{Bool, ◌&&◌}
use Prim.Native.Nat.{ℕ, zero, suc, ◌+◌, ◌-◌, ◌*◌, ◌/◌, ◌%◌, ◌^◌, ◌≤◌, ◌<◌}
use native.Mathlib.Omega.{arith}
use borrow.Author.Tests.{lt-ltb}
use lib.Bits.{bit_and, bit_or, and_mask}
use lib.Dec.{leb, ltb, leb-suc-suc}
use lib.Pow.{suc_ones, shl_exact}
use Rattle.ssi.specs.declared.Layout.{Layout}
use Rattle.ssi.specs.Sound.{Sound, error_bit}
use Rattle.ssi.specs.Telegram.{level_of, worth, without_bit, decoded, modulus}
use Rattle.ssi.specs.Builder.{coded, level_asked, telegram_of}
use Rattle.ssi.specs.FieldLaws.{clear-is}
use Rattle.ssi.proofs.PartLaws.{without-cleared, coded-lt, mark-is}
use Rattle.ssi.proofs.SoundLaws.{field_fits}
use Rattle.ssi.proofs.BuildLaws.{asked-lt, field_apart}

less : (k : ℕ) → suc k - 1 ≡ k
less k = omega arith

-- at most the mask is below the power
pub mask-leb : (t n : ℕ) → leb t (2 ^ n - 1) ≡ ltb t (2 ^ n)
mask-leb t n = sym (leb-suc-suc t (2 ^ n - 1)) ∙ ap (leb (suc t)) (suc_ones n)

-- one bit
pub level-is : (n t : ℕ) → (n ≡ 0 → ⊥) → bit_and (t / 2 ^ (n - 1)) 1 ≡ level_of n t
level-is zero t h = absurd (h refl)
level-is (suc k) t h = and_mask (t / 2 ^ (suc k - 1)) 1 ∙ ap (λ (x : ℕ). t / 2 ^ x % 2) (less k)

pub without-none : (n t : ℕ) → n ≡ 0 → t ≡ without_bit n t
without-none zero t h = omega arith
without-none (suc k) t h = absurd (omega (arith, h))

pub without_is : (n t : ℕ) → (n ≡ 0 → ⊥) → n ≤ 32 → t < 2 ^ 32 → bit_and t ((2 ^ 32 - 1) - 1 * 2 ^ (n - 1) % 2 ^ 32) ≡ without_bit n t
without_is zero t h l s = absurd (h refl)
without_is (suc k) t h l s =
    ap (λ (x : ℕ). bit_and t ((2 ^ 32 - 1) - 1 * 2 ^ x % 2 ^ 32)) (less k) ∙ clear-is t k s l ∙ sym (without-cleared k t)

-- the formats
pub decoded-binary : (f n t : ℕ) → (f ≡ 0 → ⊥) → t ≡ decoded f n t
decoded-binary zero n t h = absurd (h refl)
decoded-binary (suc f) n t h = refl

pub coded-binary : (f p : ℕ) → (f ≡ 0 → ⊥) → p ≡ coded f p
coded-binary zero p h = absurd (h refl)
coded-binary (suc f) p h = refl

-- an error bit that is set up
pub set-up : (n : ℕ) (b : Bool) → (n ≡ 0 → ⊥) → b ≡ (ltb 0 n && b)
set-up n b h = sym (ap (λ (x : Bool). x && b) (lt-ltb 0 n (omega (arith, h))))

-- the field in its place, and the error bit beside it
placed-is : (l : Layout) → Sound l → (p q : ℕ) → p < modulus l → q ≡ coded l.format p
    → q * 2 ^ (l.low - 1) % 2 ^ 32 ≡ coded l.format p * 2 ^ (l.low - 1)
placed-is l s p q h e =
    ap (λ (x : ℕ). x * 2 ^ (l.low - 1) % 2 ^ 32) e
    ∙ shl_exact (l.high - l.low + 1) (l.low - 1) 32 (coded-lt l.format (l.high - l.low + 1) p h) (omega (arith, field_fits l s, s.to-32))

no-mark : (e x v : ℕ) → e ≡ 0 → x ≡ x + v * worth e
no-mark zero x v h = omega arith
no-mark (suc e) x v h = absurd (omega (arith, h))

pub unmarked-is : (l : Layout) → Sound l → (p : ℕ) (asked : Bool) (q : ℕ) → p < modulus l → error_bit l ≡ 0 → q ≡ coded l.format p
    → q * 2 ^ (l.low - 1) % 2 ^ 32 ≡ telegram_of l p asked
unfolding telegram_of
unmarked-is l s p asked q h z d = placed-is l s p q h d ∙ no-mark (error_bit l) (coded l.format p * 2 ^ (l.low - 1)) (level_asked l asked) z

pub marked-is : (l : Layout) → Sound l → (p : ℕ) (asked : Bool) (q v : ℕ) → p < modulus l → (error_bit l ≡ 0 → ⊥) → q ≡ coded l.format p → v ≡ level_asked l asked
    → bit_or (q * 2 ^ (l.low - 1) % 2 ^ 32) (v * 2 ^ (error_bit l - 1) % 2 ^ 32) ≡ telegram_of l p asked
unfolding telegram_of
marked-is l s p asked q v h n d e =
    ap₂ (λ (x y : ℕ). bit_or x (y * 2 ^ (error_bit l - 1) % 2 ^ 32)) (placed-is l s p q h d) e
    ∙ mark-is (error_bit l) (coded l.format p * 2 ^ (l.low - 1)) (level_asked l asked) (omega (arith, n)) (omega (arith, s.bit-resolution, s.to-32)) (asked-lt l asked s)
    (field_apart l s p (error_bit l) h s.outside)
