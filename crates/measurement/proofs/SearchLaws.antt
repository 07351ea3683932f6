-- The search among the control points, and what it says of the curve: the highest used point with x at most v picks the segment on which v lies.
-- Paper 01, "From telegram to result", step 4. Assumes nothing.
use Rattle.std.specs.Prelude.{Option, None, Some, ◌≡◌, refl, true, false, cond, List, ◌∷◌, leb, ℤ, pos, negsuc, nat_abs, ◌+ℤ◌, ◌-ℤ◌, ◌*ℤ◌, get_or, ◌<ℤ◌}
use Rattle.std.proofs.Common.{sym, ap₂, ◌∙◌, add-zero, add-one, arith, lit≤}
use Rattle.std.proofs.Math.Path.{ap, subst}
use Prim.Native.Nat.{ℕ, zero, suc, ◌+◌, ◌*◌, ◌-◌, ◌≤◌, ◌<◌}
use Rattle.std.proofs.Math.Decide.{dec_le}
use Rattle.std.proofs.Math.Numerals.{unary_clauses}
use Rattle.std.proofs.Math.Dec.{T, leb→le, nleb→lt}
use Rattle.std.specs.Int.Signed.{le_z, lt_z}
use Rattle.integers.specs.Limit.{Z}
use Rattle.integers.specs.ChoiceLaws.{by-test, either, is_true, is_false}
use Rattle.integers.specs.IntLaws.{ints, excl, within, wider, add-within, sub_within, mul-within}
use Rattle.integers.specs.Int.{Within}
use Rattle.integers.specs.RingLaws.{var, lit, ◌⊕◌, ◌⊖◌, ◌⊗◌, neg, ring, abs-ex, le-ex, lt-ex, le-by, nle→lt, le→nlt}
use Rattle.integers.specs.declared.Rounded.{Rounded}
use Rattle.integers.specs.Round.{rounding}
use Rattle.integers.proofs.RoundLaws.{round-one, round-neg, round-within}
use Rattle.integers.proofs.HalfLaws.{half-neg}
use Rattle.integers.specs.Fraction.{Frac, whole, minus, nearest, halfway, rounded}
use Rattle.measurement.specs.Sound.{Usable, OnLine, Linearizable}
use Rattle.measurement.specs.Curve.{Point, point_at, points_from, highest_of, before, line, line_value, right_of, four_quadrants, one_quadrant, curve, rising}

-- with the mode on the points are usable
pub usable : (m : ℕ) {ws : List ℤ} {n : ℕ} → (m ≡ 0 → ⊥) → Linearizable m ws n → Usable ws n
unfolding Linearizable
usable zero a l = absurd (a refl)
usable (suc m) a l = l

-- what code divides: y (x₁ − x) + (v − x)(y₁ − y), by x₁ − x
pub line-value : (x y x₁ y₁ v : ℤ) → x <ℤ x₁ → rounding (y *ℤ (x₁ -ℤ x) +ℤ (v -ℤ x) *ℤ (y₁ -ℤ y)) (x₁ -ℤ x) ≡ line_value x y x₁ y₁ v
unfolding line_value
line-value x y x₁ y₁ v h = same (x₁ -ℤ x) (y₁ -ℤ y) (nat_abs (x₁ -ℤ x) * 1) run
  where
    run : x₁ -ℤ x ≡ pos (nat_abs (x₁ -ℤ x) * 1)
    run = ring (var x₁ ⊖ var x) (lit (nat_abs (x₁ -ℤ x) * 1)) (omega (arith, lt-ex (var x) (var x₁) h.lt, abs-ex (var x₁ ⊖ var x)))

    same : (D E : ℤ) (k : ℕ) → D ≡ pos k → rounding (y *ℤ D +ℤ (v -ℤ x) *ℤ E) D ≡ rounding (y *ℤ pos k +ℤ (v -ℤ x *ℤ pos 1) *ℤ E) (pos k)
    same D E k e =
        ap (λ (z : ℤ). rounding (y *ℤ z +ℤ (v -ℤ x) *ℤ E) z) e
        ∙ ap (λ (z : ℤ). rounding z (pos k)) (ring (var y ⊗ lit k ⊕ (var v ⊖ var x) ⊗ var E) (var y ⊗ lit k ⊕ (var v ⊖ var x ⊗ lit 1) ⊗ var E) (omega arith))

-- ---- what is found

-- the search among i points looks at the last of them first
pub last-first : (ws : List ℤ) (i : ℕ) (v : ℤ) → 0 < i → highest_of ws i v ≡ cond (le_z (point_at ws (i - 1)).x v) (Some (i - 1)) (highest_of ws (i - 1) v)
unfolding highest_of
last-first ws zero v h = absurd (omega arith)
last-first ws (suc i) v h = simp unary_clauses

-- a place that was found: used, at or below v, and every used point after it is above v
pub record Highest (ws : List ℤ) (n : ℕ) (v : ℤ) (i : ℕ) : Type 0 where
  pub used : i < n
  pub below : T (le_z (point_at ws i).x v)
  pub above : (j : ℕ) → i < j → j < n → T (lt_z v (point_at ws j).x)

abbrev said : List ℤ → ℕ → ℤ → Option ℕ → Type 0
said ws n v (Some i) = Highest ws n v i
said ws n v None = (j : ℕ) → j < n → T (lt_z v (point_at ws j).x)

-- one more point, above v: what was found stays
above-too : (ws : List ℤ) (n : ℕ) (v : ℤ) → T (lt_z v (point_at ws n).x) → (j : ℕ) → j < suc n → (j < n → T (lt_z v (point_at ws j).x)) → T (lt_z v (point_at ws j).x)
above-too ws n v t j b f = go (dec_le n j)
  where
    go : Dec (n ≤ j) → T (lt_z v (point_at ws j).x)
    go (yes y) = subst (λ (k : ℕ). T (lt_z v (point_at ws k).x)) (omega arith) t
    go (no y) = f (omega (arith, y))

more : (ws : List ℤ) (n : ℕ) (v : ℤ) → T (lt_z v (point_at ws n).x) → (f : Option ℕ) → said ws n v f → said ws (suc n) v f
more ws n v t (Some i) h =
    record {
      used = omega (arith, h.used);
      below = h.below;
      above = λ j a b. above-too ws n v t j b (h.above j a);
    }
more ws n v t None h = λ j b. above-too ws n v t j b (h j)

pub found : (ws : List ℤ) (n : ℕ) (v : ℤ) → said ws n v (highest_of ws n v)
unfolding highest_of
found ws zero v = λ j b. absurd (omega arith)
found ws (suc n) v =
    by-test (le_z (point_at ws n).x v) (Some n) (highest_of ws n v) (said ws (suc n) v)
    (λ t. record { used = omega arith; below = t; above = λ j a b. absurd (omega arith) })
    (λ t. more ws n v (nle→lt (point_at ws n).x v t) (highest_of ws n v) (found ws n v))

-- the same by cases
pub found_at : (ws : List ℤ) (n : ℕ) (v : ℤ) (i : ℕ) → highest_of ws n v ≡ Some i → Highest ws n v i
found_at ws n v i e = subst (said ws n v) e (found ws n v)

pub found_none : (ws : List ℤ) (n : ℕ) (v : ℤ) → highest_of ws n v ≡ None → (j : ℕ) → j < n → T (lt_z v (point_at ws j).x)
found_none ws n v e = subst (said ws n v) e (found ws n v)

-- ---- rising x

-- a point before another has the smaller x
pub x-rises : {ws : List ℤ} {n : ℕ} → Usable ws n → (i j : ℕ) → i ≤ j → j < n → T (le_z (point_at ws i).x (point_at ws j).x)
x-rises {ws} {n} u i j h b = go (j - i) j (omega arith) b
  where
    same : (i j : ℕ) → i ≡ j → T (le_z (point_at ws i).x (point_at ws j).x)
    same i j e = subst (λ (k : ℕ). T (le_z (point_at ws i).x (point_at ws k).x)) e (le-by (var (point_at ws i).x) (var (point_at ws i).x) (omega arith))

    go : (k j : ℕ) → j ≡ i + k → j < n → T (le_z (point_at ws i).x (point_at ws j).x)
    go zero j e b = same i j (omega arith)
    go (suc k) zero e b = absurd (omega arith)
    go (suc k) (suc j) e b =
        let p = le-ex (var (point_at ws i).x) (var (point_at ws j).x) (go k j (omega arith) (omega arith)) in
        let q = lt-ex (var (point_at ws j).x) (var (point_at ws (suc j)).x) (u.rises j b) in
        le-by (var (point_at ws i).x) (var (point_at ws (suc j)).x) (omega arith)

-- the list of the used points rises
pub rising-list : {ws : List ℤ} {n : ℕ} → Usable ws n → (i m : ℕ) → i + m < n → rising (point_at ws i) (points_from ws (suc i) m)
unfolding rising points_from
rising-list u i zero h = tt
rising-list u i (suc m) h = (u.rises i (omega arith), rising-list u (suc i) m (omega arith))

-- ---- the curve at a whole number, by what was found

before-whole : (v z : ℤ) → before (whole v) z ≡ lt_z v z
before-whole v z = ap (lt_z v) (ring (var z ⊗ lit 1) (var z) (omega arith))

is-before : (v z : ℤ) → T (lt_z v z) → before (whole v) z ≡ true
is-before v z t = before-whole v z ∙ is_true (lt_z v z) t

is-not-before : (v z : ℤ) → T (le_z z v) → before (whole v) z ≡ false
is-not-before v z t = before-whole v z ∙ is_false (lt_z v z) (le→nlt v z t)

module _ (ws : List ℤ) (v : ℤ) where
  -- past every point that is at or below v: the last point's y
  at_last : (i m : ℕ) → ((j : ℕ) → i < j → j ≤ i + m → T (le_z (point_at ws j).x v)) → right_of (point_at ws i) (points_from ws (suc i) m) (whole v) ≡ whole (point_at ws (i + m)).y
  unfolding right_of points_from
  at_last i zero h = ap (λ (k : ℕ). whole (point_at ws k).y) (sym (add-zero i))
  at_last i (suc m) h =
      rw (is-not-before v (point_at ws (suc i)).x (h (suc i) (omega arith) (omega arith)))
      (at_last (suc i) m (λ j a b. h j (omega arith) (omega arith)) ∙ ap (λ (k : ℕ). whole (point_at ws k).y) (omega arith))

  -- the first point after i that is above v is the one after t: the line from t to it
  at-line : (i m t : ℕ) → i ≤ t → t < i + m → ((j : ℕ) → i < j → j ≤ t → T (le_z (point_at ws j).x v)) → T (lt_z v (point_at ws (suc t)).x) →
      right_of (point_at ws i) (points_from ws (suc i) m) (whole v) ≡ line (point_at ws t) (point_at ws (suc t)) (whole v)
  unfolding right_of points_from
  at-line i zero t a b h u = absurd (omega arith)
  at-line i (suc m) t a b h u =
      either (leb t i)
      (λ y. let e : t ≡ i = omega (arith, leb→le t i y) in
      let w : T (lt_z v (point_at ws (suc i)).x) = subst (λ (k : ℕ). T (lt_z v (point_at ws (suc k)).x)) e u in
      rw (is-before v (point_at ws (suc i)).x w, e))
      (λ y. let l : i < t = nleb→lt t i y in
      rw (is-not-before v (point_at ws (suc i)).x (h (suc i) (omega arith) (omega arith)))
      (at-line (suc i) m t (omega arith) (omega arith) (λ j p q. h j (omega arith) q) u))

-- ---- what was found gives the curve's value: before the first point, past the last, and on a line

module _ {ws : List ℤ} {n : ℕ} (u : Usable ws n) (v : ℤ) where
  -- the used points, the first taken off
  used-points : points_from ws 0 n ≡ point_at ws 0 ∷ points_from ws 1 (n - 1)
  unfolding points_from
  used-points = let e : n ≡ suc (n - 1) = omega (arith, u.some) in ap (points_from ws 0) e

  pub value_none : highest_of ws n v ≡ None → four_quadrants (points_from ws 0 n) (whole v) ≡ whole (point_at ws 0).y
  unfolding four_quadrants
  value_none e = rw (used-points, is-before v (point_at ws 0).x (found_none ws n v e 0 u.some))

  -- every point up to the one found is at or below v
  up_to : (i : ℕ) → Highest ws n v i → (j : ℕ) → j ≤ i → T (le_z (point_at ws j).x v)
  up_to i h j l =
      let a = le-ex (var (point_at ws j).x) (var (point_at ws i).x) (x-rises u j i l h.used) in
      let b = le-ex (var (point_at ws i).x) (var v) h.below in
      le-by (var (point_at ws j).x) (var v) (omega arith)

  pub value-last : (i : ℕ) → highest_of ws n v ≡ Some i → i + 1 ≡ n → four_quadrants (points_from ws 0 n) (whole v) ≡ whole (point_at ws i).y
  unfolding four_quadrants
  value-last i e l =
      let h = found_at ws n v i e in
      rw (used-points, is-not-before v (point_at ws 0).x (up_to i h 0 (omega arith)))
      (at_last ws v 0 (n - 1) (λ j a b. up_to i h j (omega arith)) ∙ ap (λ (k : ℕ). whole (point_at ws k).y) (omega arith))

  pub value_line : (i : ℕ) → highest_of ws n v ≡ Some i → i + 1 < n → four_quadrants (points_from ws 0 n) (whole v) ≡ line (point_at ws i) (point_at ws (i + 1)) (whole v)
  unfolding four_quadrants
  value_line i e l =
      let h = found_at ws n v i e in
      rw (used-points, is-not-before v (point_at ws 0).x (up_to i h 0 (omega arith)))
      (at-line ws v 0 (n - 1) i (omega arith) (omega arith) (λ j a b. up_to i h j b) (h.above (suc i) (omega arith) (omega arith))
      ∙ ap (λ (k : ℕ). line (point_at ws i) (point_at ws k) (whole v)) (sym (add-one i)))

  -- the same by the words: the line from words 2 i and 2 i + 1 to the two after them
  next : (i : ℕ) → point_at ws (i + 1) ≡ record { x = get_or ws (2 * i + 2) (pos 0); y = get_or ws (2 * i + 3) (pos 0) }
  next i =
      let a : 2 * (i + 1) ≡ 2 * i + 2 = omega arith in
      let b : 2 * (i + 1) + 1 ≡ 2 * i + 3 = omega arith in
      ap₂ (λ (j k : ℕ). record { x = get_or ws j (pos 0); y = get_or ws k (pos 0) }) a b

  pub value-words : (i : ℕ) → highest_of ws n v ≡ Some i → i + 1 < n →
      rounded (four_quadrants (points_from ws 0 n) (whole v)) ≡ line_value (get_or ws (2 * i) (pos 0)) (get_or ws (2 * i + 1) (pos 0)) (get_or ws (2 * i + 2) (pos 0)) (get_or ws (2 * i + 3) (pos 0)) v
  unfolding line_value
  value-words i e l = ap rounded (value_line i e l) ∙ ap (λ (p : Point). rounded (line (point_at ws i) p (whole v))) (next i)

  pub on-words : (i : ℕ) → highest_of ws n v ≡ Some i → i + 1 < n → OnLine (get_or ws (2 * i) (pos 0)) (get_or ws (2 * i + 1) (pos 0)) (get_or ws (2 * i + 2) (pos 0)) (get_or ws (2 * i + 3) (pos 0)) v
  on-words i e l =
      let h = found_at ws n v i e in
      record {
        x-within = u.within (2 * i) (omega arith);
        y-within = u.within (2 * i + 1) (omega arith);
        x₁-within = u.within (2 * i + 2) (omega arith);
        y₁-within = u.within (2 * i + 3) (omega arith);
        from = record { le = h.below };
        to = record { lt = subst (λ (p : Point). T (lt_z v p.x)) (next i) (h.above (i + 1) (omega arith) l) };
      }

-- ---- sizes

pub v-within : {x y x₁ y₁ v : ℤ} → OnLine x y x₁ y₁ v → Within Z v
v-within {x} {y} {x₁} {y₁} {v} o =
    within Z v
    (omega (arith, ints, o.to, o.x₁-within.above, excl v, excl x₁))
    (omega (arith, ints, o.from, o.x-within.below, excl v, excl x))

line-within : (x y x₁ y₁ v : ℤ) → OnLine x y x₁ y₁ v → Within 60000000000000000 (line_value x y x₁ y₁ v).value
unfolding rounding
line-within x y x₁ y₁ v o =
    let l : x <ℤ x₁ = omega (arith, ints, o.from, o.to) in
    subst (λ (r : Rounded). Within 60000000000000000 r.value) (line-value x y x₁ y₁ v l)
    (round-within (x₁ -ℤ x)
    (wider (add-within (mul-within o.y-within (sub_within o.x₁-within o.x-within)) (mul-within (sub_within (v-within o) o.x-within) (sub_within o.y₁-within o.y-within)))
    (lit≤ tt)))

whole-within : (z : ℤ) → Within Z z → Within 60000000000000000 (nearest (whole z))
whole-within z h = rw (round-one z) (wider h (lit≤ tt))

pub four-within : {ws : List ℤ} {n : ℕ} → Usable ws n → (v : ℤ) → Within 60000000000000000 (nearest (four_quadrants (points_from ws 0 n) (whole v)))
unfolding rounding
four-within {ws} {n} u v = go (highest_of ws n v) refl
  where
    at : (i : ℕ) → highest_of ws n v ≡ Some i → Dec (n ≤ i + 1) → Within 60000000000000000 (nearest (four_quadrants (points_from ws 0 n) (whole v)))
    at i e (yes y) =
        let l : i + 1 ≡ n = omega (arith, (found_at ws n v i e).used) in
        rw (value-last u v i e l) (whole-within (point_at ws i).y (u.within (2 * i + 1) (omega arith)))
    at i e (no y) =
        let l : i + 1 < n = omega (arith, y) in
        subst (λ (r : Rounded). Within 60000000000000000 r.value) (sym (value-words u v i e l)) (line-within _ _ _ _ v (on-words u v i e l))

    go : (f : Option ℕ) → highest_of ws n v ≡ f → Within 60000000000000000 (nearest (four_quadrants (points_from ws 0 n) (whole v)))
    go (Some i) e = at i e (dec_le n (i + 1))
    go None e = rw (value_none u v e) (whole-within (point_at ws 0).y (u.within 1 (omega (arith, u.some))))

-- ---- one quadrant at a whole number

-- minus a rounded value; its mark stays
abbrev pub turned : Rounded → Rounded
turned r = record { value = pos 0 -ℤ r.value; half = r.half }

turned-is : (u : Frac) → rounded (minus u) ≡ turned (rounded u)
unfolding rounding
turned-is u =
    rw (half-neg u.num (pos u.den), round-neg u.num (pos u.den))
    (ap (λ (z : ℤ). turned_by z) (ring (neg (var (nearest u))) (lit 0 ⊖ var (nearest u)) (omega arith)))
  where
    turned_by : ℤ → Rounded
    turned_by z = record { value = z; half = halfway u }

pub one-negative : (ps : List Point) (v : ℤ) → lt_z v (pos 0) ≡ true → rounded (one_quadrant ps (whole v)) ≡ turned (rounded (four_quadrants ps (whole (pos 0 -ℤ v))))
unfolding one_quadrant
one-negative ps (pos n) e = absurd (omega (arith, ints))
one-negative ps (negsuc n) e =
    turned-is (four_quadrants ps (whole (pos (suc n))))
    ∙ ap (λ (z : ℤ). turned (rounded (four_quadrants ps (whole z)))) (ring (lit (suc n)) (lit 0 ⊖ var (negsuc n)) (omega arith))

pub one-positive : (ps : List Point) (v : ℤ) → lt_z v (pos 0) ≡ false → rounded (one_quadrant ps (whole v)) ≡ rounded (four_quadrants ps (whole v))
unfolding one_quadrant
one-positive ps (pos n) e = refl
one-positive ps (negsuc n) e = absurd (omega (arith, ints))

-- ---- the modes above one quadrant

pub curve-four : (m : ℕ) (ps : List Point) (q : Frac) → (m ≡ 0 → ⊥) → (m ≡ 1 → ⊥) → curve m ps q ≡ four_quadrants ps q
unfolding curve
curve-four zero ps q a b = absurd (a refl)
curve-four (suc zero) ps q a b = absurd (b refl)
curve-four (suc (suc m)) ps q a b = refl
