-- Where a step of float arithmetic rounds nothing: its exact result is a whole number below 2 ^ prec over a power of two that the format
-- reaches. `round-at` says so of rounding, the four `-exact` laws of each step, and the rest of z * k / 2 ^ t + b / 2 ^ t. Assumes nothing.
use Rattle.std.specs.Prelude.{◌≡◌, refl, ℕ, zero, suc, ◌+◌, ◌-◌, ◌*◌, ◌^◌, ◌≤◌, ◌<◌, Bool, true, false, cond, eqb, ℤ, pos, negsuc, neg_ℤ, nat_abs, ◌+ℤ◌, ◌*ℤ◌, ◌≤ℤ◌, Float}
use Rattle.std.proofs.Common.{sym, ap, ap₂, ◌∙◌, subst, zero-le, lt_irrefl, lt_of_lt_of_le, lt_of_le_of_lt, le_trans, le_of_eq, zero-add, zero-lt-suc, mul-le-mul_left, mul_assoc, mul_comm, mul-pos, mul-one, add-mul, mul_right_comm, arith, true≢false, pow-add, pow_pos, pow_mono, shl_lt}
use Rattle.std.proofs.Math.Nat.{mul-mul-mul_comm}
use Rattle.std.proofs.Math.Dec.{eqb-suc-zero}
use Rattle.std.specs.Float.{nan, inf, fin, Format}
use Rattle.std.specs.Float.Ieee.{prec, emax, low, up, down, unlike, round, of_int, mul, div, add}
use Rattle.std.specs.Float.Ieee.Digits.{back}
use Rattle.std.specs.Float.Ieee.Fits.{reach, down_pos}
use Rattle.std.specs.Float.Ieee.Exact.{HasValue, round_exact}
use Rattle.std.specs.Float.Ieee.Positive.{first_pos}
use Rattle.std.specs.Float.Ieee.Scale.{round_same}
use Rattle.analog.specs.FloatValue.{Is}

room : (p l t e : ℕ) → p ≤ e → p + (l - t) ≤ l + e
room p l t e h = omega arith

round-pow : (f : Format) (s : Bool) (a t : ℕ) → t ≤ low f → a < 2 ^ prec f → HasValue (round f s a (2 ^ t)) s a (2 ^ t)
round-pow f s a t h small =
    round_exact f s a (2 ^ t) a (low f - t) (pow_pos t) small
    (lt_of_lt_of_le (shl_lt (prec f) (low f - t) small) (pow_mono (room (prec f) (low f) t (suc (emax f)) (reach f))))
    (ap (λ (x : ℕ). a * x) (ap (λ (x : ℕ). 2 ^ x) (sym (back (low f) t h)) ∙ pow-add 2 (low f - t) t) ∙ sym (mul_assoc a (2 ^ (low f - t)) (2 ^ t)))

-- the law behind every step: num / den, which equals a / 2 ^ t, is not rounded
pub round-at : (f : Format) (s : Bool) (num den a t : ℕ) → 0 < den → num * 2 ^ t ≡ a * den → t ≤ low f → a < 2 ^ prec f → HasValue (round f s num den) s a (2 ^ t)
round-at f s num den a t D e h small = subst (λ (x : Float). HasValue x s a (2 ^ t)) (sym (round_same f s num den a (2 ^ t) D (pow_pos t) e)) (round-pow f s a t h small)

-- ---- an integer as a float
abbrev pub sign : ℤ → Bool
sign (pos n) = false
sign (negsuc n) = true

pub int-exact : (f : Format) (z : ℤ) → nat_abs z < 2 ^ prec f → HasValue (of_int f z) (sign z) (nat_abs z) 1
unfolding of_int
int-exact f (pos n) h = round-pow f false n 0 zero-le h
int-exact f (negsuc n) h = round-pow f true (suc n) 0 zero-le h

-- ---- a product
pub mul-exact : (f : Format) (x y : Float) (s u : Bool) (a b i j : ℕ) → HasValue x s a (2 ^ i) → HasValue y u b (2 ^ j) → i + j ≤ low f → a * b < 2 ^ prec f
    → HasValue (mul f x y) (unlike s u) (a * b) (2 ^ (i + j))
unfolding mul
mul-exact f nan y s u a b i j p q h small = absurd p
mul-exact f (inf v) y s u a b i j p q h small = absurd p
mul-exact f (fin v m e) nan s u a b i j p q h small = absurd q
mul-exact f (fin v m e) (inf w) s u a b i j p q h small = absurd q
mul-exact f (fin v m e) (fin w n d) s u a b i j p q h small =
    subst (λ (z : Bool). HasValue (round f (unlike v w) (m * up e * (n * up d)) (down e * down d)) z (a * b) (2 ^ (i + j))) (ap₂ unlike p.0 q.0)
    (round-at f (unlike v w) (m * up e * (n * up d)) (down e * down d) (a * b) (i + j) (mul-pos (down_pos e) (down_pos d))
    (ap (λ (z : ℕ). m * up e * (n * up d) * z) (pow-add 2 i j) ∙ mul-mul-mul_comm (m * up e) (n * up d) (2 ^ i) (2 ^ j)
    ∙ ap₂ ◌*◌ p.1 q.1 ∙ mul-mul-mul_comm a (down e) b (down d)) h small)

-- ---- a quotient by a power of two
by-nonzero : (n : ℕ) (Z R : Float) (s : Bool) (a c : ℕ) → 0 < n → HasValue R s a c → HasValue (cond (eqb n 0) Z R) s a c
by-nonzero zero Z R s a c h r = absurd (lt_irrefl 0 h)
by-nonzero (suc n) Z R s a c h r = subst (λ (b : Bool). HasValue (cond b Z R) s a c) (sym (eqb-suc-zero n)) r

pub div-exact : (f : Format) (x y : Float) (s u : Bool) (a i k : ℕ) → HasValue x s a (2 ^ i) → HasValue y u (2 ^ k) 1 → i + k ≤ low f → a < 2 ^ prec f
    → HasValue (div f x y) (unlike s u) a (2 ^ (i + k))
unfolding div
div-exact f nan y s u a i k p q h small = absurd p
div-exact f (inf v) y s u a i k p q h small = absurd p
div-exact f (fin v m e) nan s u a i k p q h small = absurd q
div-exact f (fin v m e) (inf w) s u a i k p q h small = absurd q
div-exact f (fin v m e) (fin w n d) s u a i k p q h small =
    let q1 : n * up d ≡ 2 ^ k * down d = sym (mul-one (n * up d)) ∙ q.1 in
    let N : 0 < n * up d = subst (λ (z : ℕ). 0 < z) (sym q1) (mul-pos (pow_pos k) (down_pos d)) in
    by-nonzero n (cond (eqb m 0) nan (inf (unlike v w))) (round f (unlike v w) (m * up e * down d) (n * up d * down e)) (unlike s u) a (2 ^ (i + k)) (first_pos n (up d) N)
    (subst (λ (z : Bool). HasValue (round f (unlike v w) (m * up e * down d) (n * up d * down e)) z a (2 ^ (i + k))) (ap₂ unlike p.0 q.0)
    (round-at f (unlike v w) (m * up e * down d) (n * up d * down e) a (i + k) (mul-pos N (down_pos e))
    (ap (λ (z : ℕ). m * up e * down d * z) (pow-add 2 i k) ∙ mul-mul-mul_comm (m * up e) (down d) (2 ^ i) (2 ^ k)
    ∙ ap₂ ◌*◌ p.1 (mul_comm (down d) (2 ^ k) ∙ sym q1) ∙ mul_assoc a (down e) (n * up d) ∙ ap (λ (z : ℕ). a * z) (mul_comm (down e) (n * up d))) h small))

-- ---- a sum of two that are not negative, over one power of two
pub add-exact : (f : Format) (x y : Float) (a b i : ℕ) → HasValue x false a (2 ^ i) → HasValue y false b (2 ^ i) → i ≤ low f → a + b < 2 ^ prec f
    → HasValue (add f x y) false (a + b) (2 ^ i)
unfolding add
add-exact f nan y a b i p q h small = absurd p
add-exact f (inf v) y a b i p q h small = absurd p
add-exact f (fin true m e) y a b i p q h small = absurd (true≢false p.0)
add-exact f (fin false m e) nan a b i p q h small = absurd q
add-exact f (fin false m e) (inf w) a b i p q h small = absurd q
add-exact f (fin false m e) (fin true n d) a b i p q h small = absurd (true≢false q.0)
add-exact f (fin false m e) (fin false n d) a b i p q h small =
    round-at f false (m * up e * down d + n * up d * down e) (down e * down d) (a + b) i (mul-pos (down_pos e) (down_pos d))
    (add-mul (m * up e * down d) (n * up d * down e) (2 ^ i)
    ∙ ap₂ ◌+◌ (mul_right_comm (m * up e) (down d) (2 ^ i) ∙ ap (λ (z : ℕ). z * down d) p.1 ∙ mul_assoc a (down e) (down d))
    (mul_right_comm (n * up d) (down e) (2 ^ i) ∙ ap (λ (z : ℕ). z * down e) q.1 ∙ mul_assoc b (down d) (down e) ∙ ap (λ (z : ℕ). b * z) (mul_comm (down d) (down e)))
    ∙ sym (add-mul a b (down e * down d))) h small

-- ---- the steps of z * k / 2 ^ t, with y the float k and w the float 2 ^ t
unlike-false : (s : Bool) → unlike s false ≡ s
unlike-false true = refl
unlike-false false = refl

is-neg : (x : Float) (n c : ℕ) → 0 < n → HasValue x true n c → Is x (neg_ℤ (pos n)) c
is-neg x zero c h v = absurd (lt_irrefl 0 h)
is-neg x (suc n) c h v = v

of-sign : (x : Float) (z : ℤ) (k c : ℕ) → 0 < k → HasValue x (sign z) (nat_abs z * k) c → Is x (z *ℤ pos k) c
of-sign x (pos n) k c h v = v
of-sign x (negsuc n) k c h v = is-neg x (suc n * k) c (mul-pos (zero-lt-suc n) h) v

of-int : (x : Float) (z : ℤ) (c : ℕ) → HasValue x (sign z) (nat_abs z) c → Is x z c
of-int x (pos n) c v = v
of-int x (negsuc n) c v = v

module _ (f : Format) (k t : ℕ) (y w : Float) (K : 0 < k) (Y : HasValue y false k 1) (W : HasValue w false (2 ^ t) 1) (reach : t ≤ low f) (z : ℤ) (small : nat_abs z * k < 2 ^ prec f) where
  int-value : HasValue (of_int f z) (sign z) (nat_abs z) 1
  int-value = int-exact f z (lt_of_le_of_lt (le_trans (le_of_eq (sym (mul-one (nat_abs z)))) (mul-le-mul_left (nat_abs z) K)) small)

  product_value : HasValue (mul f (of_int f z) y) (sign z) (nat_abs z * k) 1
  product_value = subst (λ (s : Bool). HasValue (mul f (of_int f z) y) s (nat_abs z * k) 1) (unlike-false (sign z)) (mul-exact f (of_int f z) y (sign z) false (nat_abs z) k 0 0 int-value Y zero-le small)

  pub quotient-value : HasValue (div f (mul f (of_int f z) y) w) (sign z) (nat_abs z * k) (2 ^ t)
  quotient-value =
      subst (λ (s : Bool). HasValue (div f (mul f (of_int f z) y) w) s (nat_abs z * k) (2 ^ t)) (unlike-false (sign z))
      (subst (λ (j : ℕ). HasValue (div f (mul f (of_int f z) y) w) (unlike (sign z) false) (nat_abs z * k) (2 ^ j)) (zero-add t)
      (div-exact f (mul f (of_int f z) y) w (sign z) false (nat_abs z * k) 0 t product_value W (le_trans (le_of_eq (zero-add t)) reach) small))

  pub cast_is : Is (of_int f z) z 1
  cast_is = of-int (of_int f z) z 1 int-value

  pub product_is : Is (mul f (of_int f z) y) (z *ℤ pos k) 1
  product_is = of-sign (mul f (of_int f z) y) z k 1 K product_value

  pub quotient_is : Is (div f (mul f (of_int f z) y) w) (z *ℤ pos k) (2 ^ t)
  quotient_is = of-sign (div f (mul f (of_int f z) y) w) z k (2 ^ t) K quotient-value

-- ---- and a sum over the same lower number
pub sum_is : (f : Format) (x v : Float) (z : ℤ) (k b t : ℕ) → pos 0 ≤ℤ z → Is x (z *ℤ pos k) (2 ^ t) → HasValue v false b (2 ^ t) → t ≤ low f → nat_abs z * k + b < 2 ^ prec f
    → Is (add f x v) (z *ℤ pos k +ℤ pos b) (2 ^ t)
sum_is f x v (pos n) k b t h p q reach small = add-exact f x v (n * k) b t p q reach small
sum_is f x v (negsuc n) k b t h p q reach small = absurd h.le
