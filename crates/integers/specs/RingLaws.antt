-- Polynomials on ℤ as data, and their two halves: `val e` is up e − dn e. So an equation, an order, a magnitude or a test
-- between polynomials is one statement over ℕ, which `omega arith` proves (it multiplies out products). Assumes nothing.
use Rattle.std.specs.Prelude.{ℕ, zero, suc, ◌+◌, ◌-◌, ◌*◌, ◌≤◌, ◌<◌, ◌≡◌, refl, Bool, true, false, not, T, ℤ, pos, negsuc, neg_ℤ, nat_abs, ◌+ℤ◌, ◌-ℤ◌, ◌*ℤ◌, ◌≤ℤ◌, ◌<ℤ◌}
use Rattle.std.proofs.Common.{ap, arith, mul-le-mul_right}
use Rattle.std.specs.Int.Signed.{le_z, lt_z, non_neg}
use Rattle.integers.specs.ChoiceLaws.{is_false}
use Rattle.integers.specs.Int.{P, N}
use Rattle.integers.specs.IntLaws.{le_z-false, lt_z-true, lt_z-false, add_is, sub_is, mul_is, neg-P, neg-N, abs_is, excl, eq_of, eq-to, le_of, le-to, lt_of, lt-to}

infixl 6 ◌⊕◌ ◌⊖◌
infixl 7 ◌⊗◌
pub data Exp : Type 0 where
  var : ℤ → Exp
  ◌⊕◌ ◌⊖◌ ◌⊗◌ : Exp → Exp → Exp
  neg : Exp → Exp

-- a natural number
abbrev pub lit : ℕ → Exp
lit k = var (pos k)

abbrev pub val : Exp → ℤ
val (var z) = z
val (a ⊕ b) = val a +ℤ val b
val (a ⊖ b) = val a -ℤ val b
val (a ⊗ b) = val a *ℤ val b
val (neg a) = neg_ℤ (val a)

abbrev mutual
  pub up : Exp → ℕ
  up (var z) = P z
  up (a ⊕ b) = up a + up b
  up (a ⊖ b) = up a + dn b
  up (a ⊗ b) = up a * up b + dn a * dn b
  up (neg a) = dn a

  pub dn : Exp → ℕ
  dn (var z) = N z
  dn (a ⊕ b) = dn a + dn b
  dn (a ⊖ b) = dn a + up b
  dn (a ⊗ b) = up a * dn b + dn a * up b
  dn (neg a) = up a

mul-swap : (x y u z X Y U Z s t : ℕ) → x + z ≡ y + u → X + Z ≡ Y + U → s + (x * Y + y * X) ≡ t + (x * X + y * Y) → s + (u * Z + z * U) ≡ t + (u * U + z * Z)
mul-swap x y u z X Y U Z s t h k e =
    omega (arith, ap (λ (m : ℕ). m * X) h, ap (λ (m : ℕ). m * Y) h, ap (λ (m : ℕ). u * m) k, ap (λ (m : ℕ). z * m) k)

pub halves : (e : Exp) → P (val e) + dn e ≡ N (val e) + up e
halves (var z) = omega arith
halves (a ⊕ b) = omega (arith, add_is (val a) (val b), halves a, halves b)
halves (a ⊖ b) = omega (arith, sub_is (val a) (val b), halves a, halves b)
halves (a ⊗ b) = mul-swap (P (val a)) (N (val a)) (up a) (dn a) (P (val b)) (N (val b)) (up b) (dn b) _ _ (halves a) (halves b) (mul_is (val a) (val b))
halves (neg a) = omega (arith, neg-P (val a), neg-N (val a), halves a)

-- `ring e f (omega arith)`
pub ring : (e f : Exp) → up e + dn f ≡ up f + dn e → val e ≡ val f
ring e f h = eq_of (val e) (val f) (omega (arith, halves e, halves f))

pub ring-to : (e f : Exp) → val e ≡ val f → up e + dn f ≡ up f + dn e
ring-to e f h = omega (arith, halves e, halves f, eq-to (val e) (val f) h)

pub le : (e f : Exp) → up e + dn f ≤ up f + dn e → val e ≤ℤ val f
le e f h = le_of (val e) (val f) (omega (arith, halves e, halves f))

pub le_in : (e f : Exp) → val e ≤ℤ val f → up e + dn f ≤ up f + dn e
le_in e f h = omega (arith, halves e, halves f, le-to (val e) (val f) h)

pub lt : (e f : Exp) → up e + dn f < up f + dn e → val e <ℤ val f
lt e f h = lt_of (val e) (val f) (omega (arith, halves e, halves f))

pub lt_in : (e f : Exp) → val e <ℤ val f → up e + dn f < up f + dn e
lt_in e f h = omega (arith, halves e, halves f, lt-to (val e) (val f) h)

-- ---- an order times a factor

pub mul_mono : (a b c : ℤ) → a ≤ℤ b → pos 0 ≤ℤ c → (a *ℤ c) ≤ℤ (b *ℤ c)
mul_mono a b (pos c) h k = le (var a ⊗ var (pos c)) (var b ⊗ var (pos c)) (omega (arith, mul-le-mul_right c (le-to a b h)))
mul_mono a b (negsuc c) h k = absurd (omega (arith, le-to (pos 0) (negsuc c) k))

-- ---- magnitudes

pub abs-ex : (e : Exp) → nat_abs (val e) ≡ (up e - dn e) + (dn e - up e)
abs-ex e = omega (arith, abs_is (val e), excl (val e), halves e)

pub abs-plus : (a b : ℤ) → nat_abs (a +ℤ b) ≤ nat_abs a + nat_abs b
abs-plus a b = omega (arith, abs-ex (var a ⊕ var b), abs-ex (var a), abs-ex (var b))

pub abs_neg : (a : ℤ) → nat_abs (neg_ℤ a) ≡ nat_abs a
abs_neg (pos zero) = refl
abs_neg (pos (suc n)) = refl
abs_neg (negsuc n) = refl

pub abs-times : (a b : ℤ) → nat_abs (a *ℤ b) ≡ nat_abs a * nat_abs b
abs-times (pos a) (pos b) = refl
abs-times (pos a) (negsuc b) = abs_neg (pos (a * suc b))
abs-times (negsuc a) (pos b) = abs_neg (pos (suc a * b))
abs-times (negsuc a) (negsuc b) = refl

-- the positive part
pub pos-ex : (e : Exp) → P (val e) ≡ up e - dn e
pos-ex e = omega (arith, excl (val e), halves e)

-- ---- a test between two polynomials, passed or failed, as an order of ℕ, and back

pub le-ex : (e f : Exp) → T (le_z (val e) (val f)) → up e + dn f ≤ up f + dn e
le-ex e f t = le_in e f (record { le = t })

pub lt-ex : (e f : Exp) → T (lt_z (val e) (val f)) → up e + dn f < up f + dn e
lt-ex e f t = lt_in e f (record { lt = t })

pub nle-ex : (e f : Exp) → T (not (le_z (val e) (val f))) → up f + dn e < up e + dn f
nle-ex e f t = omega (arith, halves e, halves f, le_z-false (val e) (val f) (is_false (le_z (val e) (val f)) t))

pub nlt-ex : (e f : Exp) → T (not (lt_z (val e) (val f))) → up f + dn e ≤ up e + dn f
nlt-ex e f t = omega (arith, halves e, halves f, lt_z-false (val e) (val f) (is_false (lt_z (val e) (val f)) t))

pub le-by : (e f : Exp) → up e + dn f ≤ up f + dn e → T (le_z (val e) (val f))
le-by e f h = (le e f h).le

pub lt_by : (e f : Exp) → up e + dn f < up f + dn e → T (lt_z (val e) (val f))
lt_by e f h = (lt e f h).lt

pub nle→le : (a b : ℤ) → T (not (le_z a b)) → T (le_z b a)
nle→le a b t = let h = nle-ex (var a) (var b) t in le-by (var b) (var a) (omega arith)

pub le→nlt : (a b : ℤ) → T (le_z b a) → T (not (lt_z a b))
le→nlt a b t = go (lt_z a b) refl
  where
    go : (c : Bool) → lt_z a b ≡ c → T (not c)
    go true e = absurd (omega (arith, le-ex (var b) (var a) t, lt_z-true a b e))
    go false e = tt

pub nle→lt : (a b : ℤ) → T (not (le_z a b)) → T (lt_z b a)
nle→lt a b t = let h = nle-ex (var a) (var b) t in lt_by (var b) (var a) (omega arith)

pub non_neg-N : (a : ℤ) → T (non_neg a) → N a ≡ 0
non_neg-N (pos n) t = refl
non_neg-N (negsuc n) t = absurd t

pub negative-P : (a : ℤ) → T (not (non_neg a)) → P a ≡ 0
negative-P (pos n) t = absurd t
negative-P (negsuc n) t = refl
