-- The curve through points whose y never fall keeps the order of fractions, in all three modes of linearization. On one line, since its rise is not negative; across
-- a point, since both sides are held against the point's y; in one quadrant, since the half mirrored at (0, 0) rises too; with the mode off L is what it is given.
-- Request K14; paper 01, "From telegram to result", step 4. Assumes nothing.
use Rattle.std.specs.Prelude.{◌≡◌, not, List, [], ◌∷◌, ℕ, zero, suc, ◌+◌, ◌*◌, ◌≤◌, ◌<◌, T, ℤ, pos, nat_abs, ◌+ℤ◌, ◌-ℤ◌, ◌*ℤ◌, ◌≤ℤ◌}
use Rattle.std.proofs.Common.{sym, ap, subst, mul-le-mul_left, mul-le-mul_right, arith}
use Rattle.std.specs.Int.Signed.{le_z, lt_z, non_neg}
use Rattle.integers.specs.ChoiceLaws.{by-test}
use Rattle.integers.specs.Fraction.{Frac, whole, minus}
use Rattle.integers.specs.Int.{P, N}
use Rattle.integers.proofs.OrderLaws.{NotAbove, not-above-self, by_whole, turned-over}
use Rattle.integers.specs.RingLaws.{var, lit, ◌⊕◌, ◌⊖◌, ◌⊗◌, le, le_in, le-ex, lt-ex, nlt-ex, abs-ex, mul_mono, non_neg-N, negative-P}
use Rattle.measurement.proofs.CurveLaws.{before-not-above, not-before-above}
use Rattle.measurement.specs.Curve.{Point, before, line, right_of, four_quadrants, one_quadrant, curve, rising, origin, Ordered}

-- ---- one line: y + A D / m with A the way from x, D the rise, m the run

rise-both : (y A B D : ℤ) (d b c : ℕ) → pos 0 ≤ℤ D → (A *ℤ pos c) ≤ℤ (B *ℤ pos b) →
    ((y *ℤ pos (d * b) +ℤ A *ℤ D) *ℤ pos (d * c)) ≤ℤ ((y *ℤ pos (d * c) +ℤ B *ℤ D) *ℤ pos (d * b))
rise-both y A B D d b c r h =
    numbers (d * b) (d * c)
    (mul_mono (A *ℤ pos (d * c)) (B *ℤ pos (d * b)) D
    (le (var A ⊗ lit (d * c)) (var B ⊗ lit (d * b)) (omega (arith, mul-le-mul_right d (le_in (var A ⊗ lit c) (var B ⊗ lit b) h)))) r)
  where
    numbers : (m n : ℕ) → ((A *ℤ pos n) *ℤ D) ≤ℤ ((B *ℤ pos m) *ℤ D) → ((y *ℤ pos m +ℤ A *ℤ D) *ℤ pos n) ≤ℤ ((y *ℤ pos n +ℤ B *ℤ D) *ℤ pos m)
    numbers m n k =
        le ((var y ⊗ lit m ⊕ var A ⊗ var D) ⊗ lit n) ((var y ⊗ lit n ⊕ var B ⊗ var D) ⊗ lit m)
        (omega (arith, le_in ((var A ⊗ lit n) ⊗ var D) ((var B ⊗ lit m) ⊗ var D) k))

module _ (p p₁ : Point) (up-hill : T (lt_z p.x p₁.x)) (no-fall : T (le_z p.y p₁.y)) where
  rise : pos 0 ≤ℤ (p₁.y -ℤ p.y)
  rise = le (lit 0) (var p₁.y ⊖ var p.y) (omega (arith, le-ex (var p.y) (var p₁.y) no-fall))

  -- two places on the line
  line-both : (q r : Frac) → NotAbove q r → NotAbove (line p p₁ q) (line p p₁ r)
  line-both q r h =
      rise-both p.y (q.num -ℤ p.x *ℤ pos q.den) (r.num -ℤ p.x *ℤ pos r.den) (p₁.y -ℤ p.y) (nat_abs (p₁.x -ℤ p.x)) q.den r.den rise
      (le ((var q.num ⊖ var p.x ⊗ lit q.den) ⊗ lit r.den) ((var r.num ⊖ var p.x ⊗ lit r.den) ⊗ lit q.den)
      (omega (arith, le_in (var q.num ⊗ lit r.den) (var r.num ⊗ lit q.den) h)))

  -- a place at or after x, and one at or before x₁
  line-left : (q : Frac) → NotAbove (whole p.x) q → NotAbove (whole p.y) (line p p₁ q)
  line-left q h =
      above (q.num -ℤ p.x *ℤ pos q.den) (p₁.y -ℤ p.y) p.y (nat_abs (p₁.x -ℤ p.x) * q.den)
      (le (lit 0) (var q.num ⊖ var p.x ⊗ lit q.den) (omega (arith, le_in (var p.x ⊗ lit q.den) (var q.num ⊗ lit 1) h))) rise
    where
      above : (A D y : ℤ) (m : ℕ) → pos 0 ≤ℤ A → pos 0 ≤ℤ D → (y *ℤ pos m) ≤ℤ ((y *ℤ pos m +ℤ A *ℤ D) *ℤ pos 1)
      above A D y m h r = le (var y ⊗ lit m) ((var y ⊗ lit m ⊕ var A ⊗ var D) ⊗ lit 1) (omega (arith, le_in (lit 0 ⊗ var D) (var A ⊗ var D) (mul_mono (pos 0) A D h r)))

  line-right : (q : Frac) → NotAbove q (whole p₁.x) → NotAbove (line p p₁ q) (whole p₁.y)
  line-right q h =
      below (q.num -ℤ p.x *ℤ pos q.den) p.y p₁.y (nat_abs (p₁.x -ℤ p.x) * q.den)
      (le (var q.num ⊖ var p.x ⊗ lit q.den) (lit (nat_abs (p₁.x -ℤ p.x) * q.den))
      (omega (arith, le_in (var q.num ⊗ lit 1) (var p₁.x ⊗ lit q.den) h, ap (λ (n : ℕ). n * q.den) run))) rise
    where
      run : nat_abs (p₁.x -ℤ p.x) + (P p.x + N p₁.x) ≡ P p₁.x + N p.x
      run = omega (arith, lt-ex (var p.x) (var p₁.x) up-hill, abs-ex (var p₁.x ⊖ var p.x))

      below : (A y y₁ : ℤ) (m : ℕ) → A ≤ℤ pos m → pos 0 ≤ℤ (y₁ -ℤ y) → ((y *ℤ pos m +ℤ A *ℤ (y₁ -ℤ y)) *ℤ pos 1) ≤ℤ (y₁ *ℤ pos m)
      below A y y₁ m h r =
          le ((var y ⊗ lit m ⊕ var A ⊗ (var y₁ ⊖ var y)) ⊗ lit 1) (var y₁ ⊗ lit m)
          (omega (arith, le_in (var A ⊗ (var y₁ ⊖ var y)) (lit m ⊗ (var y₁ ⊖ var y)) (mul_mono A (pos m) (y₁ -ℤ y) h r)))

-- ---- the curve

-- where q is not above r, r is not before z unless q is
no_way_back : (q r : Frac) (z : ℤ) → 0 < q.den → NotAbove q r → T (not (before q z)) → T (before r z) → ⊥
no_way_back q r z d h s t =
    numbers (P q.num) (N q.num) (P r.num) (N r.num) (P z) (N z) q.den r.den d
    (omega (arith, nlt-ex (var q.num) (var z ⊗ lit q.den) s))
    (omega (arith, le_in (var q.num ⊗ lit r.den) (var r.num ⊗ lit q.den) h))
    (omega (arith, lt-ex (var r.num) (var z ⊗ lit r.den) t))
  where
    numbers : (a a' c c' z z' b d : ℕ) → 0 < b → z * b + a' ≤ a + z' * b → a * d + c' * b ≤ c * b + a' * d → suc (c + z' * d) ≤ z * d + c' → ⊥
    numbers a a' c c' z z' b d hb h k l = omega (arith, mul-le-mul_right d h, mul-le-mul_right b l)

-- a function of fractions that keeps their order
abbrev pub Rises : (Frac → Frac) → Type 0
Rises f = (q r : Frac) → 0 < q.den → 0 < r.den → NotAbove q r → NotAbove (f q) (f r)

-- the y from p on never fall
unfoldable pub never_falls_from : Point → List Point → Type 0
never_falls_from p [] = Unit {0}
never_falls_from p (p₁ ∷ ps) = T (le_z p.y p₁.y) × never_falls_from p₁ ps

-- what is asked of the points, by the mode
unfoldable pub NeverFalls : ℕ → List Point → Type 0
NeverFalls zero ps = Unit {0}
NeverFalls (suc m) [] = Unit {0}
NeverFalls (suc m) (p ∷ ps) = never_falls_from p ps

right-first : (p : Point) (ps : List Point) → rising p ps → never_falls_from p ps → (q : Frac) → NotAbove (whole p.x) q → NotAbove (whole p.y) (right_of p ps q)
unfolding right_of rising never_falls_from
right-first p [] u f q t = not-above-self (whole p.y)
right-first p (p₁ ∷ ps) u f q t =
    by-test (before q p₁.x) (line p p₁ q) (right_of p₁ ps q) (λ w. NotAbove (whole p.y) w)
    (λ c. line-left p p₁ u.0 f.0 q t)
    (λ c. by_whole (whole p.y) (right_of p₁ ps q) p₁.y (le (var p.y ⊗ lit 1) (var p₁.y ⊗ lit 1) (omega (arith, le-ex (var p.y) (var p₁.y) f.0)))
    (right-first p₁ ps u.1 f.1 q (not-before-above q p₁.x c)))

right-rises : (p : Point) (ps : List Point) → rising p ps → never_falls_from p ps → Rises (right_of p ps)
unfolding right_of rising never_falls_from
right-rises p [] u f q r d e h = not-above-self (whole p.y)
right-rises p (p₁ ∷ ps) u f q r d e h =
    by-test (before q p₁.x) (line p p₁ q) (right_of p₁ ps q) (λ w. NotAbove w (right_of p (p₁ ∷ ps) r))
    (λ a. by-test (before r p₁.x) (line p p₁ r) (right_of p₁ ps r) (λ w. NotAbove (line p p₁ q) w)
    (λ b. line-both p p₁ u.0 f.0 q r h)
    (λ b. by_whole (line p p₁ q) (right_of p₁ ps r) p₁.y (line-right p p₁ u.0 f.0 q (before-not-above q p₁.x a))
    (right-first p₁ ps u.1 f.1 r (not-before-above r p₁.x b))))
    (λ a. by-test (before r p₁.x) (line p p₁ r) (right_of p₁ ps r) (λ w. NotAbove (right_of p₁ ps q) w)
    (λ b. absurd (no_way_back q r p₁.x d h a b))
    (λ b. right-rises p₁ ps u.1 f.1 q r d e h))

four-first : (p : Point) (ps : List Point) → rising p ps → never_falls_from p ps → (q : Frac) → NotAbove (whole p.y) (four_quadrants (p ∷ ps) q)
unfolding four_quadrants
four-first p ps u f q =
    by-test (before q p.x) (whole p.y) (right_of p ps q) (λ w. NotAbove (whole p.y) w)
    (λ c. not-above-self (whole p.y)) (λ c. right-first p ps u f q (not-before-above q p.x c))

four-rises : (p : Point) (ps : List Point) → rising p ps → never_falls_from p ps → Rises (four_quadrants (p ∷ ps))
unfolding four_quadrants
four-rises p ps u f q r d e h =
    by-test (before q p.x) (whole p.y) (right_of p ps q) (λ w. NotAbove w (four_quadrants (p ∷ ps) r))
    (λ a. four-first p ps u f r)
    (λ a. by-test (before r p.x) (whole p.y) (right_of p ps r) (λ w. NotAbove (right_of p ps q) w)
    (λ b. absurd (no_way_back q r p.x d h a b))
    (λ b. right-rises p ps u f q r d e h))

-- the first point is (0, 0), so that the mirrored half rises too
one-rises : (ps : List Point) → rising origin ps → never_falls_from origin ps → Rises (one_quadrant (origin ∷ ps))
unfolding one_quadrant
one-rises ps u f q r d e h =
    by-test (non_neg q.num) (at q) (minus (at (minus q))) (λ w. NotAbove w (one_quadrant (origin ∷ ps) r))
    (λ a. by-test (non_neg r.num) (at r) (minus (at (minus r))) (λ w. NotAbove (at q) w)
    (λ b. four-rises origin ps u f q r d e h)
    (λ b. absurd (signs (P q.num) (N r.num) q.den r.den d (minus-N r.num b)
    (omega (arith, le_in (var q.num ⊗ lit r.den) (var r.num ⊗ lit q.den) h, ap (λ (n : ℕ). n * r.den) (non_neg-N q.num a), ap (λ (n : ℕ). n * q.den) (negative-P r.num b))))))
    (λ a. by-test (non_neg r.num) (at r) (minus (at (minus r))) (λ w. NotAbove (minus (at (minus q))) w)
    (λ b. by_whole (minus (at (minus q))) (at r) (pos 0) (turned-over (whole (pos 0)) (at (minus q)) (four-first origin ps u f (minus q))) (four-first origin ps u f r))
    (λ b. turned-over (at (minus r)) (at (minus q)) (four-rises origin ps u f (minus r) (minus q) e d (turned-over q r h))))
  where
    at : Frac → Frac
    at q = four_quadrants (origin ∷ ps) q

    minus-N : (a : ℤ) → T (not (non_neg a)) → 0 < N a
    minus-N (pos n) t = absurd t
    minus-N (ℤ.negsuc n) t = omega arith

    signs : (a c b d : ℕ) → 0 < b → 0 < c → a * d + c * b ≤ 0 → ⊥
    signs a c b d hb hc h = omega (arith, mul-le-mul_left c hb)

pub curve-rises : (m : ℕ) (ps : List Point) → Ordered m ps → NeverFalls m ps → Rises (curve m ps)
unfolding Ordered curve NeverFalls
curve-rises zero ps o f q r d e h = h
curve-rises (suc m) [] o f q r d e h = absurd o
curve-rises (suc zero) (p ∷ ps) o f q r d e h =
    subst (λ (p : Point). rising p ps → never_falls_from p ps → NotAbove (one_quadrant (p ∷ ps) q) (one_quadrant (p ∷ ps) r)) (sym o.0)
    (λ u f. one-rises ps u f q r d e h) o.1 f
curve-rises (suc (suc m)) (p ∷ ps) o f q r d e h = four-rises p ps o f q r d e h
