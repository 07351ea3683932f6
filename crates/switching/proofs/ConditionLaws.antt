-- The laws of the modes' comparisons: a number without its sign, the sizes of what is compared, and the rule by kind of mode. Assumes nothing.
use Rattle.std.specs.Prelude.{◌≡◌, refl, ◌⊎◌, Bool, true, false, ℕ, zero, suc, ◌+◌, ◌≤◌, ◌<◌, ℤ, pos, ◌-ℤ◌, ◌*ℤ◌}
use Rattle.std.proofs.Common.{inl, inr, arith}
use Rattle.std.proofs.Math.Decide.{dec_le}
use Rattle.std.specs.Int.Signed.{le_z, lt_z}
use Rattle.integers.specs.IntLaws.{ints, excl, sub_is, abs_is, sub_within}
use Rattle.integers.specs.Int.{Within}
use Rattle.switching.specs.Condition.{by_mode, magnitude_of, on_above, on_below, on_near, compared, against, rule_of}

-- ---- a number without its sign

pub magnitude_of-turn : (x : ℤ) → lt_z x (pos 0) ≡ true → pos 0 -ℤ x ≡ magnitude_of x
magnitude_of-turn x e = omega (arith, ints, sub_is (pos 0) x, excl x, abs_is x)

pub magnitude_of-keep : (x : ℤ) → lt_z x (pos 0) ≡ false → x ≡ magnitude_of x
magnitude_of-keep x e = omega (arith, ints, excl x, abs_is x)

pub magnitude_of-within : {A : ℕ} {x : ℤ} → Within A x → Within A (magnitude_of x)
magnitude_of-within {A} {x} h = record { above = omega (arith, abs_is x, excl x, h.above, h.below); below = omega arith }

pub within-twice : {A : ℕ} {x : ℤ} → Within A x → Within (A + A) x
within-twice h = record { above = omega (arith, h.above); below = omega (arith, h.below) }

-- ---- by mode

-- what holds of each entry holds of the mode's
pub every-mode : {A : Type 0} (Q : A → Type 0) (mode : ℕ) {x₀ x₁ x₂ x₃ x₄ x₅ x₆ : A} → Q x₀ → Q x₁ → Q x₂ → Q x₃ → Q x₄ → Q x₅ → Q x₆ → Q (by_mode mode x₀ x₁ x₂ x₃ x₄ x₅ x₆)
every-mode Q zero a b c d e f g = a
every-mode Q (suc zero) a b c d e f g = b
every-mode Q (suc (suc zero)) a b c d e f g = c
every-mode Q (suc (suc (suc zero))) a b c d e f g = d
every-mode Q (suc (suc (suc (suc zero)))) a b c d e f g = e
every-mode Q (suc (suc (suc (suc (suc zero))))) a b c d e f g = f
every-mode Q (suc (suc (suc (suc (suc (suc mode)))))) a b c d e f g = g

pub magnitude_of-mode : {A : Type 0} (mode : ℕ) (x y z : A) → mode < 3 → x ≡ by_mode mode x x x y y y z
magnitude_of-mode zero x y z h = refl
magnitude_of-mode (suc zero) x y z h = refl
magnitude_of-mode (suc (suc zero)) x y z h = refl
magnitude_of-mode (suc (suc (suc mode))) x y z h = absurd (omega arith)

pub signed-mode : {A : Type 0} (mode : ℕ) (x y z : A) → 3 ≤ mode → mode < 6 → y ≡ by_mode mode x x x y y y z
signed-mode zero x y z l h = absurd (omega arith)
signed-mode (suc zero) x y z l h = absurd (omega arith)
signed-mode (suc (suc zero)) x y z l h = absurd (omega arith)
signed-mode (suc (suc (suc zero))) x y z l h = refl
signed-mode (suc (suc (suc (suc zero)))) x y z l h = refl
signed-mode (suc (suc (suc (suc (suc zero))))) x y z l h = refl
signed-mode (suc (suc (suc (suc (suc (suc mode)))))) x y z l h = absurd (omega arith)

pub partner-mode : {A : Type 0} (mode : ℕ) (x y z : A) → 6 ≤ mode → z ≡ by_mode mode x x x y y y z
partner-mode zero x y z l = absurd (omega arith)
partner-mode (suc zero) x y z l = absurd (omega arith)
partner-mode (suc (suc zero)) x y z l = absurd (omega arith)
partner-mode (suc (suc (suc zero))) x y z l = absurd (omega arith)
partner-mode (suc (suc (suc (suc zero)))) x y z l = absurd (omega arith)
partner-mode (suc (suc (suc (suc (suc zero))))) x y z l = absurd (omega arith)
partner-mode (suc (suc (suc (suc (suc (suc mode)))))) x y z l = refl

-- from mode 3 on, where mode 6 is as 3
pub signed-modes : {A : Type 0} (mode : ℕ) (x y : A) → 3 ≤ mode → y ≡ by_mode mode x x x y y y y
signed-modes mode x y l = go (dec_le 6 mode)
  where
    go : Dec (6 ≤ mode) → y ≡ by_mode mode x x x y y y y
    go (yes h) = partner-mode mode x y y h
    go (no f) = signed-mode mode x y y l (omega (arith, f))

pub compared-within : (mode : ℕ) {A : ℕ} {r : ℤ} → Within A r → Within A (compared mode r)
unfolding compared
compared-within mode {A} h = every-mode (Within A) mode (magnitude_of-within h) (magnitude_of-within h) (magnitude_of-within h) h h h h

pub against-within : (mode : ℕ) {A : ℕ} {own partner : ℤ} → Within A own → Within A partner → Within (A + A) (against mode own partner)
unfolding against
against-within mode {A} {own} {partner} h k =
    let u = magnitude_of-within h in
    every-mode (Within (A + A)) mode (within-twice u) (within-twice u) (within-twice u) (within-twice h) (within-twice h) (within-twice h) (sub_within k h)

-- the rule of a mode: below its mark, near it, or else above it
module _ (mode : ℕ) (r p : ℤ) (h : ℕ) (was : Bool) where
  pub rule-below : (mode ≡ 1) ⊎ (mode ≡ 4) → on_below r p h was ≡ rule_of mode r p h was
  unfolding rule_of
  rule-below (inl e) = rw e
  rule-below (inr e) = rw e

  pub rule-near : (mode ≡ 2) ⊎ (mode ≡ 5) → on_near r p h ≡ rule_of mode r p h was
  unfolding rule_of
  rule-near (inl e) = rw e
  rule-near (inr e) = rw e

pub rule-above : (mode : ℕ) (r p : ℤ) (h : ℕ) (was : Bool) → (((mode ≡ 1) ⊎ (mode ≡ 4)) → ⊥) → (((mode ≡ 2) ⊎ (mode ≡ 5)) → ⊥) → on_above r p h was ≡ rule_of mode r p h was
unfolding rule_of
rule-above zero r p h was b n = refl
rule-above (suc zero) r p h was b n = absurd (b (inl refl))
rule-above (suc (suc zero)) r p h was b n = absurd (n (inl refl))
rule-above (suc (suc (suc zero))) r p h was b n = refl
rule-above (suc (suc (suc (suc zero)))) r p h was b n = absurd (b (inr refl))
rule-above (suc (suc (suc (suc (suc zero))))) r p h was b n = absurd (n (inr refl))
rule-above (suc (suc (suc (suc (suc (suc mode)))))) r p h was b n = refl

-- mode 5's test by the code's product
pub near-is : (r p : ℤ) (h : ℕ) → le_z (pos 2 *ℤ magnitude_of (r -ℤ p)) (pos h) ≡ on_near r p h
unfolding on_near
near-is r p h = refl
