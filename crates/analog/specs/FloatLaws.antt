-- Floats that are exact fractions over one lower number are ordered as the upper numbers are, and are worth these fractions. Assumes nothing.
use Rattle.std.specs.Prelude.{◌≡◌, refl, ℕ, zero, suc, ◌+◌, ◌*◌, ◌<◌, Bool, true, false, ℤ, pos, negsuc, neg_ℤ, ◌+ℤ◌, ◌*ℤ◌, T, ltb, Float}
use Rattle.std.proofs.Common.{sym, ap, ◌∙◌, subst, mul-pos, zero-lt-suc, zero-mul, mul_comm, mul_right_comm, mul_assoc, mul-lt-mul_of_pos_right, lt_of_mul-lt-mul_right, lt_of_lt_of_le, le-add_right, arith, true≢false, ltb→lt, lt→ltb}
use Rattle.std.proofs.Math.Nat.{eq_of_mul-eq-mul_right}
use Rattle.std.proofs.Math.Dec.{leb-suc-suc}
use Rattle.std.specs.Int.Signed.{lt_z}
use Rattle.std.specs.Float.{nan, inf, fin}
use Rattle.std.specs.Float.Ieee.{up, down, lt}
use Rattle.std.specs.Float.Ieee.Fits.{down_pos}
use Rattle.std.specs.Float.Ieee.Positive.{first_pos}
use Rattle.integers.specs.ChoiceLaws.{is_true}
use Rattle.integers.specs.Int.{P, N}
use Rattle.integers.specs.RingLaws.{Exp, var, lit, ◌⊕◌, ◌⊗◌, ring, ring-to, lt-ex, lt_by}
use Rattle.integers.specs.Fraction.{Frac, frac, Same}
use Rattle.analog.specs.FloatValue.{Is, value_of}

-- ---- the value as a pair
neg-mul : (k c : ℕ) → neg_ℤ (pos k) *ℤ pos c ≡ neg_ℤ (pos (k * c))
neg-mul zero c = ap pos (zero-mul c) ∙ sym (ap (λ (x : ℕ). neg_ℤ (pos x)) (zero-mul c))
neg-mul (suc k) c = refl

pub is_same : (x : Float) (z : ℤ) (c : ℕ) → 0 < c → Is x z c → Same (value_of x) (frac z c)
is_same nan (pos n) c C h = absurd h
is_same nan (negsuc n) c C h = absurd h
is_same (inf s) (pos n) c C h = absurd h
is_same (inf s) (negsuc n) c C h = absurd h
is_same (fin false m e) (pos n) c C h = (down_pos e, C, ap pos h.1)
is_same (fin true m e) (pos n) c C h = absurd (true≢false h.0)
is_same (fin false m e) (negsuc n) c C h = absurd (true≢false (sym h.0))
is_same (fin true m e) (negsuc n) c C h = (down_pos e, C, neg-mul (m * up e) c ∙ ap (λ (k : ℕ). neg_ℤ (pos k)) h.1)

-- ---- the order
same_test : (a b : Bool) → (T a → T b) → (T b → T a) → a ≡ b
same_test true true p q = refl
same_test true false p q = absurd (p tt)
same_test false true p q = absurd (q tt)
same_test false false p q = refl

-- X * c is a * D and Y * c is b * D
ltb-scaled : (X Y a b c D : ℕ) → 0 < c → 0 < D → X * c ≡ a * D → Y * c ≡ b * D → ltb X Y ≡ ltb a b
ltb-scaled X Y a b c D C P p q =
    same_test (ltb X Y) (ltb a b)
    (λ t. lt→ltb a b (lt_of_mul-lt-mul_right D (subst (λ (v : ℕ). v < b * D) p (subst (λ (v : ℕ). X * c < v) q (mul-lt-mul_of_pos_right (ltb→lt X Y t) C)))))
    (λ t. lt→ltb X Y (lt_of_mul-lt-mul_right c (subst (λ (v : ℕ). v < Y * c) (sym p) (subst (λ (v : ℕ). a * D < v) (sym q) (mul-lt-mul_of_pos_right (ltb→lt a b t) P)))))

module _ (m n : ℕ) (e d : ℤ) (a b c : ℕ) (C : 0 < c) (p : m * up e * c ≡ a * down e) (q : n * up d * c ≡ b * down d) where
  left : m * up e * down d * c ≡ a * (down e * down d)
  left = mul_right_comm (m * up e) (down d) c ∙ ap (λ (v : ℕ). v * down d) p ∙ mul_assoc a (down e) (down d)

  right : n * up d * down e * c ≡ b * (down e * down d)
  right = mul_right_comm (n * up d) (down e) c ∙ ap (λ (v : ℕ). v * down e) q ∙ mul_assoc b (down d) (down e) ∙ ap (λ (v : ℕ). b * v) (mul_comm (down d) (down e))

  sizes : ltb (m * up e * down d) (n * up d * down e) ≡ ltb a b
  sizes = ltb-scaled (m * up e * down d) (n * up d * down e) a b c (down e * down d) C (mul-pos (down_pos e) (down_pos d)) left right

  sizes-back : ltb (n * up d * down e) (m * up e * down d) ≡ ltb b a
  sizes-back = ltb-scaled (n * up d * down e) (m * up e * down d) b a c (down e * down d) C (mul-pos (down_pos e) (down_pos d)) right left

  apart : 0 < a → ltb 0 (m * up e * down d + n * up d * down e) ≡ true
  apart A = is_true (ltb 0 (m * up e * down d + n * up d * down e)) (lt→ltb 0 (m * up e * down d + n * up d * down e)
      (lt_of_lt_of_le (first_pos (m * up e * down d) c (subst (λ (v : ℕ). 0 < v) (sym left) (mul-pos A (mul-pos (down_pos e) (down_pos d))))) (le-add_right (m * up e * down d) (n * up d * down e))))

pub lt-is : (x y : Float) (z w : ℤ) (c : ℕ) → 0 < c → Is x z c → Is y w c → lt x y ≡ lt_z z w
unfolding lt
lt-is nan y (pos a) w c C p q = absurd p
lt-is nan y (negsuc a) w c C p q = absurd p
lt-is (inf s) y (pos a) w c C p q = absurd p
lt-is (inf s) y (negsuc a) w c C p q = absurd p
lt-is (fin s m e) nan z (pos b) c C p q = absurd q
lt-is (fin s m e) nan z (negsuc b) c C p q = absurd q
lt-is (fin s m e) (inf t) z (pos b) c C p q = absurd q
lt-is (fin s m e) (inf t) z (negsuc b) c C p q = absurd q
lt-is (fin true m e) (fin t n d) (pos a) w c C p q = absurd (true≢false p.0)
lt-is (fin false m e) (fin t n d) (negsuc a) w c C p q = absurd (true≢false (sym p.0))
lt-is (fin false m e) (fin true n d) (pos a) (pos b) c C p q = absurd (true≢false q.0)
lt-is (fin false m e) (fin false n d) (pos a) (pos b) c C p q = sizes m n e d a b c C p.1 q.1
lt-is (fin false m e) (fin true n d) (pos a) (negsuc b) c C p q = refl
lt-is (fin false m e) (fin false n d) (pos a) (negsuc b) c C p q = absurd (true≢false (sym q.0))
lt-is (fin true m e) (fin true n d) (negsuc a) (pos b) c C p q = absurd (true≢false q.0)
lt-is (fin true m e) (fin false n d) (negsuc a) (pos b) c C p q = apart m n e d (suc a) b c C p.1 q.1 (zero-lt-suc a)
lt-is (fin true m e) (fin true n d) (negsuc a) (negsuc b) c C p q = sizes-back m n e d (suc a) (suc b) c C p.1 q.1 ∙ leb-suc-suc (suc b) a
lt-is (fin true m e) (fin false n d) (negsuc a) (negsuc b) c C p q = absurd (true≢false (sym q.0))

-- ---- the upper numbers of one format are ordered as the codes are
abbrev upper_e : ℕ → ℕ → ℤ → Exp
upper_e k o z = var z ⊗ lit k ⊕ lit o

pub scaled-order : (k o : ℕ) (a b : ℤ) → 0 < k → lt_z (a *ℤ pos k +ℤ pos o) (b *ℤ pos k +ℤ pos o) ≡ lt_z a b
scaled-order k o a b K =
    same_test (lt_z (a *ℤ pos k +ℤ pos o) (b *ℤ pos k +ℤ pos o)) (lt_z a b)
    (λ t. lt_by (var a) (var b) (lt_of_mul-lt-mul_right k (less (lt-ex (upper_e k o a) (upper_e k o b) t))))
    (λ t. lt_by (upper_e k o a) (upper_e k o b) (more (mul-lt-mul_of_pos_right (lt-ex (var a) (var b) t) K)))
  where
    less : P a * k + N a * 0 + o + (P b * 0 + N b * k + 0) < P b * k + N b * 0 + o + (P a * 0 + N a * k + 0) → (P a + N b) * k < (P b + N a) * k
    less h = omega arith

    more : (P a + N b) * k < (P b + N a) * k → P a * k + N a * 0 + o + (P b * 0 + N b * k + 0) < P b * k + N b * 0 + o + (P a * 0 + N a * k + 0)
    more h = omega arith

-- ---- two fractions that are the same as a third are the same
pub same-trans : (p q r : Frac) → Same p q → Same q r → Same p r
same-trans p q r h k =
    let x = ring-to (var p.num ⊗ lit q.den) (var q.num ⊗ lit p.den) h.2 in
    let y = ring-to (var q.num ⊗ lit r.den) (var r.num ⊗ lit q.den) k.2 in (
      h.0,
      k.1,
      ring (var p.num ⊗ lit r.den) (var r.num ⊗ lit p.den)
          (eq_of_mul-eq-mul_right q.den h.1 _ _ (omega (arith, ap (λ (m : ℕ). m * r.den) x, ap (λ (m : ℕ). m * p.den) y))),
    )

pub same-sym : (p q : Frac) → Same p q → Same q p
same-sym p q h = (h.1, h.0, sym h.2)

pub same_refl : (p : Frac) → 0 < p.den → Same p p
same_refl p h = (h, h, refl)

-- ---- what is equal after a scale, an offset and a lower number was equal before
cancel : (k : ℕ) (a b : ℤ) → 0 < k → a *ℤ pos k ≡ b *ℤ pos k → a ≡ b
cancel k a b K e = ring (var a) (var b) (eq_of_mul-eq-mul_right k K _ _ (omega (arith, ring-to (var a ⊗ lit k) (var b ⊗ lit k) e)))

pub scaled-equal : (k o c : ℕ) (a b : ℤ) → 0 < k → Same (frac (a *ℤ pos k +ℤ pos o) c) (frac (b *ℤ pos k +ℤ pos o) c) → a ≡ b
scaled-equal k o c a b K h =
    let e = cancel c (a *ℤ pos k +ℤ pos o) (b *ℤ pos k +ℤ pos o) h.0 h.2 in
    ring (var a) (var b) (eq_of_mul-eq-mul_right k K _ _ (omega (arith, ring-to (upper_e k o a) (upper_e k o b) e)))
