-- The laws of signed numbers, as `omega` reads them: a whole number z is P z − N z. Assumes nothing.
use Rattle.std.specs.Prelude.{ℕ, zero, suc, ◌+◌, ◌-◌, ◌*◌, ◌/◌, ◌%◌, ◌^◌, ◌≤◌, ◌<◌, max, ◌≡◌, refl, Bool, true, false, cond, T, ltb, ℤ, pos, negsuc, neg_ℤ, nat_abs, ◌+ℤ◌, ◌-ℤ◌, ◌*ℤ◌, ◌≤ℤ◌, ◌<ℤ◌}
use Rattle.std.proofs.Common.{sym, ap, ◌∙◌, subst, arith, div-add-mod', mod-lt, mul-le-mul, mul-le-mul_left, div-le_self, ltb-true, ltb-false, leb-true, leb-false, to_z-of_z}
use Rattle.std.proofs.Math.Nat.{zero-div, zero-mod}
use Rattle.std.proofs.Math.IntN.{sub_ℕ}
use Rattle.std.specs.Int.Signed.{mag, mag_rem, non_neg, lt_z, le_z, quot_z, rem_z}
use Rattle.std.specs.Int.{Width}
use mir.Val.{SFits, Fits, bits, hbits, to_z, of_z}
use mir.ValLaws.{sfits_le}
use Rattle.integers.specs.ChoiceLaws.{is_true}
use Rattle.integers.specs.Int.{P, N, Within}

-- one of the two is 0: `omega` splits on the difference
pub excl : (z : ℤ) → P z - N z ≡ P z
excl (pos n) = omega arith
excl (negsuc n) = omega arith

-- ---- the operations

sub-P : (a b : ℕ) → P (sub_ℕ a b) ≡ a - b
sub-P a b = go (ltb a b) refl
  where
    go : (t : Bool) → ltb a b ≡ t → P (cond t (negsuc (b - suc a)) (pos (a - b))) ≡ a - b
    go true e = omega (arith, ltb-true)
    go false e = refl

sub-N : (a b : ℕ) → N (sub_ℕ a b) ≡ b - a
sub-N a b = go (ltb a b) refl
  where
    go : (t : Bool) → ltb a b ≡ t → N (cond t (negsuc (b - suc a)) (pos (a - b))) ≡ b - a
    go true e = omega (arith, ltb-true)
    go false e = omega (arith, ltb-false)

pub add_is : (a b : ℤ) → P (a +ℤ b) + (N a + N b) ≡ N (a +ℤ b) + (P a + P b)
add_is (pos a) (pos b) = omega arith
add_is (pos a) (negsuc b) = omega (arith, sub-P a (suc b), sub-N a (suc b))
add_is (negsuc a) (pos b) = omega (arith, sub-P b (suc a), sub-N b (suc a))
add_is (negsuc a) (negsuc b) = omega arith

pub neg-P : (a : ℤ) → P (neg_ℤ a) ≡ N a
neg-P (pos zero) = refl
neg-P (pos (suc n)) = refl
neg-P (negsuc n) = refl

pub neg-N : (a : ℤ) → N (neg_ℤ a) ≡ P a
neg-N (pos zero) = refl
neg-N (pos (suc n)) = refl
neg-N (negsuc n) = refl

pub sub_is : (a b : ℤ) → P (a -ℤ b) + (N a + P b) ≡ N (a -ℤ b) + (P a + N b)
sub_is a b = omega (arith, add_is a (neg_ℤ b), neg-P b, neg-N b)

pub mul_is : (a b : ℤ) → P (a *ℤ b) + (P a * N b + N a * P b) ≡ N (a *ℤ b) + (P a * P b + N a * N b)
mul_is (pos a) (pos b) = omega arith
mul_is (pos a) (negsuc b) = omega (arith, neg-P (pos (a * suc b)), neg-N (pos (a * suc b)))
mul_is (negsuc a) (pos b) = omega (arith, neg-P (pos (suc a * b)), neg-N (pos (suc a * b)))
mul_is (negsuc a) (negsuc b) = omega arith

-- ---- equality and the orders

pub eq-to : (a b : ℤ) → a ≡ b → P a + N b ≡ P b + N a
eq-to a b e = omega (arith, ap P e, ap N e)

pub eq_of : (a b : ℤ) → P a + N b ≡ P b + N a → a ≡ b
eq_of (pos a) (pos b) h = ap pos (omega arith)
eq_of (pos a) (negsuc b) h = absurd (omega arith)
eq_of (negsuc a) (pos b) h = absurd (omega arith)
eq_of (negsuc a) (negsuc b) h = ap negsuc (omega arith)

pub le_z-true : (a b : ℤ) → le_z a b ≡ true → P a + N b ≤ P b + N a
le_z-true (pos a) (pos b) e = omega (arith, leb-true a b e)
le_z-true (pos a) (negsuc b) e = absurd (subst T (sym e) tt)
le_z-true (negsuc a) (pos b) e = omega arith
le_z-true (negsuc a) (negsuc b) e = omega (arith, leb-true b a e)

pub le_z-false : (a b : ℤ) → le_z a b ≡ false → P b + N a < P a + N b
le_z-false (pos a) (pos b) e = omega (arith, leb-false a b e)
le_z-false (pos a) (negsuc b) e = omega arith
le_z-false (negsuc a) (pos b) e = absurd (subst T e tt)
le_z-false (negsuc a) (negsuc b) e = omega (arith, leb-false b a e)

pub lt_z-true : (a b : ℤ) → lt_z a b ≡ true → P a + N b < P b + N a
lt_z-true (pos a) (pos b) e = omega (arith, ltb-true a b e)
lt_z-true (pos a) (negsuc b) e = absurd (subst T (sym e) tt)
lt_z-true (negsuc a) (pos b) e = omega arith
lt_z-true (negsuc a) (negsuc b) e = omega (arith, ltb-true b a e)

pub lt_z-false : (a b : ℤ) → lt_z a b ≡ false → P b + N a ≤ P a + N b
lt_z-false (pos a) (pos b) e = omega (arith, ltb-false a b e)
lt_z-false (pos a) (negsuc b) e = omega arith
lt_z-false (negsuc a) (pos b) e = absurd (subst T e tt)
lt_z-false (negsuc a) (negsuc b) e = omega (arith, ltb-false b a e)

pub le-to : (a b : ℤ) → a ≤ℤ b → P a + N b ≤ P b + N a
le-to a b h = le_z-true a b (is_true (le_z a b) h.le)

pub lt-to : (a b : ℤ) → a <ℤ b → P a + N b < P b + N a
lt-to a b h = lt_z-true a b (is_true (lt_z a b) h.lt)

pub le_of : (a b : ℤ) → P a + N b ≤ P b + N a → a ≤ℤ b
le_of a b h = go (le_z a b) refl
  where
    go : (t : Bool) → le_z a b ≡ t → a ≤ℤ b
    go true e = record { le = subst T (sym e) tt }
    go false e = absurd (omega (arith, le_z-false a b e))

pub lt_of : (a b : ℤ) → P a + N b < P b + N a → a <ℤ b
lt_of a b h = go (lt_z a b) refl
  where
    go : (t : Bool) → lt_z a b ≡ t → a <ℤ b
    go true e = record { lt = subst T (sym e) tt }
    go false e = absurd (omega (arith, lt_z-false a b e))

-- ---- a signed width's range

pub fits-P : (w : Width) (z : ℤ) → SFits w z → P z < 2 ^ hbits w
fits-P w (pos n) f = f.sfits
fits-P w (negsuc n) f = omega (arith, f.sfits)

pub fits-N : (w : Width) (z : ℤ) → SFits w z → N z ≤ 2 ^ hbits w
fits-N w (pos n) f = omega arith
fits-N w (negsuc n) f = f.sfits

-- −H ≤ z < H, as one statement: 2 P + 1 ≤ H + P + N and 2 N ≤ H + P + N
pub fits-of : (w : Width) (z : ℤ) → max (suc (P z + P z)) (N z + N z) ≤ 2 ^ hbits w + (P z + N z) → SFits w z
fits-of w (pos n) h = record { sfits = omega arith }
fits-of w (negsuc n) h = record { sfits = omega arith }

-- ---- division, by a divisor that is not negative

pub quot-P : (a b : ℤ) → N b ≡ 0 → P (quot_z a b) ≡ P a / P b
quot-P (pos a) (pos b) h = refl
quot-P (negsuc a) (pos b) h = neg-P (pos (suc a / b)) ∙ sym (zero-div b)
quot-P a (negsuc b) h = absurd (omega arith)

pub quot-N : (a b : ℤ) → N b ≡ 0 → N (quot_z a b) ≡ N a / P b
quot-N (pos a) (pos b) h = sym (zero-div b)
quot-N (negsuc a) (pos b) h = neg-N (pos (suc a / b))
quot-N a (negsuc b) h = absurd (omega arith)

pub rem-P : (a b : ℤ) → N b ≡ 0 → P (rem_z a b) ≡ P a % P b
rem-P (pos a) (pos b) h = refl
rem-P (negsuc a) (pos b) h = neg-P (pos (suc a % b)) ∙ sym (zero-mod b)
rem-P a (negsuc b) h = absurd (omega arith)

pub rem-N : (a b : ℤ) → N b ≡ 0 → N (rem_z a b) ≡ N a % P b
rem-N (pos a) (pos b) h = sym (zero-mod b)
rem-N (negsuc a) (pos b) h = neg-N (pos (suc a % b))
rem-N a (negsuc b) h = absurd (omega arith)

-- ---- a number's size, and a product's

-- from −A ≤ z ≤ A as orders give it
pub within : (A : ℕ) (z : ℤ) → P z ≤ A + N z → N z ≤ A + P z → Within A z
within A (pos n) h k = record { above = omega arith; below = omega arith }
within A (negsuc n) h k = record { above = omega arith; below = omega arith }

pub wider : {A B : ℕ} {z : ℤ} → Within A z → A ≤ B → Within B z
wider h l = record { above = omega (arith, h.above); below = omega (arith, h.below) }

pub mul-within : {A B : ℕ} {a b : ℤ} → Within A a → Within B b → Within (A * B) (a *ℤ b)
mul-within {A} {B} {a = pos a} {b = pos b} h k = record { above = mul-le-mul h.above k.above; below = omega arith }
mul-within {A} {B} {a = pos a} {b = negsuc b} h k =
    let l : a * suc b ≤ A * B = mul-le-mul h.above k.below in
    record { above = omega (arith, neg-P (pos (a * suc b))); below = omega (arith, neg-N (pos (a * suc b))) }
mul-within {A} {B} {a = negsuc a} {b = pos b} h k =
    let l : suc a * b ≤ A * B = mul-le-mul h.below k.above in
    record { above = omega (arith, neg-P (pos (suc a * b))); below = omega (arith, neg-N (pos (suc a * b))) }
mul-within {A} {B} {a = negsuc a} {b = negsuc b} h k = record { above = mul-le-mul h.below k.below; below = omega arith }

pub add-within : {A B : ℕ} {a b : ℤ} → Within A a → Within B b → Within (A + B) (a +ℤ b)
add-within {a} {b} h k = within _ (a +ℤ b) (omega (arith, add_is a b, h.above, h.below, k.above, k.below)) (omega (arith, add_is a b, h.above, h.below, k.above, k.below))

pub sub_within : {A B : ℕ} {a b : ℤ} → Within A a → Within B b → Within (A + B) (a -ℤ b)
sub_within {a} {b} h k = within _ (a -ℤ b) (omega (arith, sub_is a b, h.above, h.below, k.above, k.below)) (omega (arith, sub_is a b, h.above, h.below, k.above, k.below))

-- ---- that a signed result fits, by the parts of its operands

pub add-fits : (w : Width) (a b : ℤ) → max (suc ((P a + P b) + (P a + P b))) ((N a + N b) + (N a + N b)) ≤ 2 ^ hbits w + ((P a + P b) + (N a + N b)) → SFits w (a +ℤ b)
add-fits w a b h = fits-of w (a +ℤ b) (omega (arith, add_is a b))

pub sub-fits : (w : Width) (a b : ℤ) → max (suc ((P a + N b) + (P a + N b))) ((N a + P b) + (N a + P b)) ≤ 2 ^ hbits w + ((P a + N b) + (N a + P b)) → SFits w (a -ℤ b)
sub-fits w a b h = fits-of w (a -ℤ b) (omega (arith, sub_is a b))

-- a number as it is read back from the bits of a signed local: what a need has for each variable
abbrev pub bk : Width → ℤ → ℤ
bk w z = to_z w (of_z w z)

-- what a value that fits is: its range, and that it is what is read back from its bits
pub record Fit (w : Width) (z : ℤ) : Type 0 where
  pub p : P z < 2 ^ hbits w
  pub n : N z ≤ 2 ^ hbits w
  pub p' : P (to_z w (of_z w z)) ≡ P z
  pub n' : N (to_z w (of_z w z)) ≡ N z

pub fit : {w : Width} {z : ℤ} → SFits w z → Fit w z
fit {w} {z} f = record { p = fits-P w z f; n = fits-N w z f; p' = ap P (to_z-of_z f); n' = ap N (to_z-of_z f) }

pub fits-within : {w : Width} {A : ℕ} {z : ℤ} → Within A z → A < 2 ^ hbits w → SFits w z
fits-within {w} {A} {z} h l = fits-of w z (omega (arith, h.above, h.below))

pub mul-fits : {w : Width} {A B : ℕ} {a b : ℤ} → Within A a → Within B b → A * B < 2 ^ hbits w → SFits w (a *ℤ b)
mul-fits h k l = fits-within (mul-within h k) l

pub size : {w : Width} {z : ℤ} → SFits w z → Within (2 ^ hbits w) z
size {w} {z} f = record { above = omega (arith, fits-P w z f); below = fits-N w z f }

-- what is read back from a number's bits is as the number is: it fits, it is within its bound, and equal bits are equal numbers
pub again : {w : Width} {z : ℤ} → SFits w z → SFits w (to_z w (of_z w z))
again f = subst (SFits _) (sym (to_z-of_z f)) f

pub same_bits : {w : Width} {a b : ℤ} → SFits w a → SFits w b → of_z w a ≡ of_z w b → a ≡ b
same_bits {w} f g e = sym (to_z-of_z f) ∙ ap (to_z w) e ∙ to_z-of_z g

pub kept : {w : Width} {A : ℕ} {z : ℤ} → SFits w z → Within A z → Within A (to_z w (of_z w z))
kept f h = subst (Within _) (sym (to_z-of_z f)) h

-- ---- a signed division by a divisor above 0

pub quot_fits : {w : Width} {a : ℤ} (b : ℤ) → SFits w a → N b < P b → SFits w (quot_z a b)
quot_fits {w} {a} b f l =
    let z : N b ≡ 0 = omega (arith, excl b) in
    fits-of w (quot_z a b) (omega (arith, fits-P w a f, fits-N w a f, quot-P a b z, quot-N a b z, div-le_self (P a) (P b), div-le_self (N a) (P b)))

-- what `Need-div-VAR` and `Need-rem-VAR` ask
pub div-ok : {w : Width} {a b : ℤ} → SFits w a → SFits w b → N b < P b → (0 < of_z w b) × SFits w (quot_z (to_z w (of_z w a)) (to_z w (of_z w b)))
div-ok {w} {a} {b = pos b} f g l = (l, simp (to_z-of_z f, to_z-of_z {z = pos b} g) (quot_fits (pos b) f l))
div-ok {b = negsuc b} f g l = absurd (omega arith)

pub rem-fits : {w : Width} {a : ℤ} (b : ℤ) → SFits w a → SFits w (rem_z a b)
rem-fits {a} b f = sfits_le (mag_rem a b) f

-- all that `omega` needs of a / b and a % b, b above 0: a = (a / b) b + a % b in each half, and the remainder's size
pub record Division (a b : ℤ) : Type 0 where
  pub divisor : N b ≡ 0
  pub above : P (quot_z a b) * P b + P (rem_z a b) ≡ P a
  pub below : N (quot_z a b) * P b + N (rem_z a b) ≡ N a
  pub quot_above : P (quot_z a b) ≤ P (quot_z a b) * P b
  pub quot_below : N (quot_z a b) ≤ N (quot_z a b) * P b
  pub rem-above : P (rem_z a b) < P b
  pub rem_below : N (rem_z a b) < P b
  pub rem-one : P (rem_z a b) - N (rem_z a b) ≡ P (rem_z a b)

pub division : (a b : ℤ) → N b < P b → Division a b
division a b l =
    let z : N b ≡ 0 = omega (arith, excl b) in
    let m : 1 ≤ P b = omega arith in
    record {
      divisor = z;
      above = rw (quot-P a b z, rem-P a b z) (div-add-mod' (P a) (P b));
      below = rw (quot-N a b z, rem-N a b z) (div-add-mod' (N a) (P b));
      quot_above = omega (arith, mul-le-mul_left (P (quot_z a b)) m);
      quot_below = omega (arith, mul-le-mul_left (N (quot_z a b)) m);
      rem-above = omega (arith, rem-P a b z, mod-lt (P a) m);
      rem_below = omega (arith, rem-N a b z, mod-lt (N a) m);
      rem-one = excl (rem_z a b);
    }

pub quot-within : {A : ℕ} {a : ℤ} (b : ℤ) → N b < P b → Within A a → Within A (quot_z a b)
quot-within {A} {a} b l h =
    let x = division a b l in
    record { above = omega (arith, h.above); below = omega (arith, h.below) }

pub rem-within : {w : Width} {a : ℤ} (b : ℤ) → N b < P b → SFits w a → Within (P b) (rem_z a b)
rem-within {a} b l f =
    let x = division a b l in
    record { above = omega arith; below = omega arith }

-- the same of a call's result: `fit_at w64 c.f.result c.f.ok`
pub fit_at : (w : Width) (z : ℤ) → mag z < 2 ^ hbits w → Fit w z
fit_at w z l = fit (record { sfits = l })

-- and the equation to rewrite by: `back_at w64 c.f.result c.f.ok`
pub back_at : (w : Width) (z : ℤ) → mag z < 2 ^ hbits w → bk w z ≡ z
back_at w z l = to_z-of_z (record { sfits = l })

-- a value's size, the one statement that `omega` takes of each `SFits w z` in reach. It leaves out that the largest number is one less: `fit` has that
pub range : (w : Width) (z : ℤ) → SFits w z → P (bk w z) + N (bk w z) ≤ 2 ^ hbits w
range w z f = omega (arith, fit f, excl z)

pub abs_is : (z : ℤ) → nat_abs z ≡ P z + N z
abs_is (pos a) = omega arith
abs_is (negsuc a) = omega arith

-- ---- a cast to an unsigned type asks both of these

pub non_neg-of : (z : ℤ) → N z ≤ P z → T (non_neg z)
non_neg-of (pos n) h = tt
non_neg-of (negsuc n) h = absurd (omega arith)

pub abs-fits : (w : Width) (z : ℤ) → P z + N z < 2 ^ bits w → Fits w (nat_abs z)
abs-fits w (pos n) h = record { fits = omega arith }
abs-fits w (negsuc n) h = record { fits = omega arith }

-- ---- what `omega` is handed: `omega (arith, ints, ..)`
pub ruleset ints = (le_z-true, le_z-false, lt_z-true, lt_z-false, le-to, lt-to, eq-to, le_of, lt_of, eq_of, sub-fits, add-fits, fits-of, range, non_neg-of, abs-fits)
