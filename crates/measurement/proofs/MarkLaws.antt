-- Where linearization's mark is no: with the mode off, before the first used point, from the last on, and at every used point; and in one quadrant the mark of a
-- negative v is that of -v. Paper 02, K7. Assumes nothing.
use Rattle.std.specs.Prelude.{Option, None, Some, ◌≡◌, refl, true, false, List, ℕ, ◌+◌, ◌*◌, ◌-◌, ◌≤◌, ◌<◌, T, ℤ, pos, nat_abs, ◌+ℤ◌, ◌-ℤ◌, ◌*ℤ◌}
use Rattle.std.proofs.Common.{sym, ap, ◌∙◌, subst, arith}
use Rattle.std.proofs.Math.Decide.{dec_le}
use Rattle.std.specs.Int.Signed.{le_z, lt_z}
use Rattle.integers.proofs.HalfLaws.{whole-no-half, multiple-no-half}
use Rattle.integers.specs.Fraction.{whole, halfway}
use Rattle.integers.specs.declared.Rounded.{Rounded}
use Rattle.integers.specs.Round.{halved, rounding}
use Rattle.integers.specs.RingLaws.{var, lit, ◌⊕◌, ◌⊖◌, ◌⊗◌, ring, le-ex, lt-ex}
use Rattle.measurement.specs.Curve.{Point, point_at, points_from, highest_of, line, four_quadrants, one_quadrant, curve, linearized_by}
use Rattle.measurement.proofs.SearchLaws.{Highest, found_at, x-rises, value_none, value-last, value_line, one-negative}
use Rattle.measurement.specs.Sound.{Usable}

-- with the mode off
pub off-no-half : (ps : List Point) (v : ℤ) → (linearized_by 0 ps v).half ≡ false
unfolding linearized_by curve rounding
off-no-half ps v = whole-no-half v

-- one quadrant, below 0
pub one-half : (ps : List Point) (v : ℤ) → lt_z v (pos 0) ≡ true → halfway (one_quadrant ps (whole v)) ≡ halfway (four_quadrants ps (whole (pos 0 -ℤ v)))
unfolding rounding
one-half ps v e = ap (λ (r : Rounded). r.half) (one-negative ps v e)

-- at its own left point a line is no half
at_left : (p p₁ : Point) → halfway (line p p₁ (whole p.x)) ≡ false
at_left p p₁ = ap (λ (z : ℤ). halved z (pos dx)) upper ∙ multiple-no-half p.y (pos dx)
  where
    dx : ℕ
    dx = nat_abs (p₁.x -ℤ p.x) * 1

    upper : p.y *ℤ pos dx +ℤ (p.x -ℤ p.x *ℤ pos 1) *ℤ (p₁.y -ℤ p.y) ≡ p.y *ℤ pos dx
    upper = ring (var p.y ⊗ lit dx ⊕ (var p.x ⊖ var p.x ⊗ lit 1) ⊗ (var p₁.y ⊖ var p.y)) (var p.y ⊗ lit dx) (omega arith)

module _ {ws : List ℤ} {n : ℕ} (u : Usable ws n) where
  -- the curve at v is no half
  abbrev pub Unmarked : ℤ → Type 0
  Unmarked v = halfway (four_quadrants (points_from ws 0 n) (whole v)) ≡ false

  -- the search at a point's own x finds that point
  own : (i j : ℕ) → i < n → Highest ws n (point_at ws i).x j → j ≡ i
  own i j h f = go (dec_le i j)
    where
      go : Dec (i ≤ j) → j ≡ i
      go (no l) = let a = lt-ex (var (point_at ws i).x) (var (point_at ws i).x) (f.above i (omega (arith, l)) h) in absurd (omega arith)
      go (yes l) = further (dec_le j i)
        where
          further : Dec (j ≤ i) → j ≡ i
          further (yes k) = omega arith
          further (no k) =
              let a = lt-ex (var (point_at ws i).x) (var (point_at ws (i + 1)).x) (rises i (omega (arith, k, f.used))) in
              let b = le-ex (var (point_at ws (i + 1)).x) (var (point_at ws j).x) (x-rises u (i + 1) j (omega (arith, k)) f.used) in
              let c = le-ex (var (point_at ws j).x) (var (point_at ws i).x) f.below in
              absurd (omega arith)
            where
              rises : (i : ℕ) → i + 1 < n → T (lt_z (point_at ws i).x (point_at ws (i + 1)).x)
              rises i l = subst (λ (k : ℕ). T (lt_z (point_at ws i).x (point_at ws k).x)) (omega arith) (u.rises i (omega arith))

  -- what the search finds says it: nothing, or the last point, or a point on its own x
  at-nothing : (v : ℤ) → highest_of ws n v ≡ None → Unmarked v
  at-nothing v e = ap halfway (value_none u v e) ∙ whole-no-half (point_at ws 0).y

  at_last : (v : ℤ) (i : ℕ) → highest_of ws n v ≡ Some i → i + 1 ≡ n → Unmarked v
  at_last v i e l = ap halfway (value-last u v i e l) ∙ whole-no-half (point_at ws i).y

  -- before the first point
  pub before-first : (v : ℤ) → T (lt_z v (point_at ws 0).x) → Unmarked v
  before-first v t = go (highest_of ws n v) refl
    where
      go : (f : Option ℕ) → highest_of ws n v ≡ f → Unmarked v
      go None e = at-nothing v e
      go (Some i) e =
          let f = found_at ws n v i e in
          let a = le-ex (var (point_at ws 0).x) (var (point_at ws i).x) (x-rises u 0 i (omega arith) f.used) in
          let b = le-ex (var (point_at ws i).x) (var v) f.below in
          let c = lt-ex (var v) (var (point_at ws 0).x) t in
          absurd (omega arith)

  -- from the last point on
  pub from_last : (v : ℤ) → T (le_z (point_at ws (n - 1)).x v) → Unmarked v
  from_last v t = go (highest_of ws n v) refl
    where
      over : T (lt_z v (point_at ws (n - 1)).x) → ⊥
      over s =
          let a = lt-ex (var v) (var (point_at ws (n - 1)).x) s in
          let b = le-ex (var (point_at ws (n - 1)).x) (var v) t in
          omega arith

      go : (f : Option ℕ) → highest_of ws n v ≡ f → Unmarked v
      go None e = at-nothing v e
      go (Some i) e = last (dec_le n (i + 1))
        where
          last : Dec (n ≤ i + 1) → Unmarked v
          last (yes l) = at_last v i e (omega (arith, (found_at ws n v i e).used))
          last (no l) = absurd (over ((found_at ws n v i e).above (n - 1) (omega (arith, l)) (omega (arith, u.some))))

  -- at a point
  pub at-point : (i : ℕ) → i < n → Unmarked (point_at ws i).x
  at-point i h = go (highest_of ws n x) refl
    where
      x : ℤ
      x = (point_at ws i).x

      go : (f : Option ℕ) → highest_of ws n x ≡ f → Unmarked x
      go None e = at-nothing x e
      go (Some j) e = at (dec_le n (j + 1))
        where
          f : Highest ws n x j
          f = found_at ws n x j e

          at : Dec (n ≤ j + 1) → Unmarked x
          at (yes l) = at_last x j e (omega (arith, f.used))
          at (no l) =
              ap halfway (value_line u x j e (omega (arith, l)))
              ∙ subst (λ (k : ℕ). halfway (line (point_at ws k) (point_at ws (j + 1)) (whole x)) ≡ false) (sym (own i j h f)) (at_left (point_at ws i) (point_at ws (j + 1)))
