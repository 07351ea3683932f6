-- A table that loads gives settings that every part accepts: a sound layout, a sound scaling, and points through which a curve can be drawn.
use Rattle.std.specs.Prelude.{◌≡◌, refl, List, ◌⊎◌, ℕ, zero, suc, ◌+◌, ◌*◌, ◌-◌, ◌≤◌, ◌<◌, ℤ, pos, length, get_or}
use Rattle.std.proofs.Common.{sym, ◌∙◌, subst, add-one, arith}
use Rattle.std.proofs.Math.Path.{ap, ap₂}
use Rattle.std.proofs.Math.Logic.{inl, inr}
use Rattle.std.proofs.Math.Decide.{dec_le}
use borrow.Author.Tests.{le-ltb}
use Rattle.std.proofs.Math.ListN.{length-drop}
use Rattle.std.proofs.Math.Seq.{get_or-drop}
use Rattle.integers.specs.Limit.{Z}
use Rattle.integers.specs.Int.{Within}
use Rattle.measurement.specs.Curve.{point_at, points_from, rising, origin, Ordered}
use Rattle.measurement.specs.Measure.{used_points}
use Rattle.measurement.specs.Sound.{Linearizable, Usable}
use Rattle.measurement.specs.Sound as measurement
use Rattle.measurement.proofs.SearchLaws.{rising-list}
use Rattle.parameters.specs.Rows.{row_at, row_of}
use Rattle.parameters.specs.Slots as slot
use Rattle.parameters.proofs.RangeLaws as ranges
use Rattle.parameters.specs.Valid.{Valid}
use Rattle.ssi.specs.Sound.{Sound}
use Rattle.settings.specs.Settings.{layout_of, scaling_of, points_of, preselection_of, preselections_of}
use Rattle.switching.specs.Switching.{preselection_at}

-- with the mode off nothing is asked of the points
linearizable : (m : ℕ) {ws : List ℤ} {n : ℕ} → ((m ≡ 0 → ⊥) → Usable ws n) → Linearizable m ws n
unfolding Linearizable
linearizable zero f = tt
linearizable (suc m) f = f (λ e. omega arith)

-- usable points, the first of them (0, 0) in one quadrant
listed : (m : ℕ) (ws : List ℤ) (n : ℕ) → rising (point_at ws 0) (points_from ws 1 n) → (suc m ≡ 1 → point_at ws 0 ≡ origin) → Ordered (suc m) (points_from ws 0 (suc n))
unfolding Ordered points_from
listed zero ws n r g = (g refl, r)
listed (suc m) ws n r g = r

ordered : (m : ℕ) (ws : List ℤ) (n : ℕ) → ((m ≡ 0 → ⊥) → Usable ws n) → (m ≡ 1 → point_at ws 0 ≡ origin) → Ordered m (points_from ws 0 n)
unfolding Ordered
ordered zero ws n f g = tt
ordered (suc m) ws n f g =
    let u = f (λ e. omega arith) in
    let e : n ≡ suc (n - 1) = omega (arith, u.some) in
    subst (λ (k : ℕ). Ordered (suc m) (points_from ws 0 k)) (sym e) (listed m ws (n - 1) (rising-list u 0 (n - 1) (omega (arith, u.some))) g)

module _ {t : List ℤ} (v : Valid t) where
  -- checks 2 to 4
  pub layout-sound : Sound (layout_of t)
  unfolding layout_of
  layout-sound =
      record {
        from_one = (ranges.low-bit-range v).0;
        to-32 = (ranges.resolution-range v).1;
        level = ranges.error-level-range v;
        low-high = (ranges.field-range v).0;
        high-resolution = (ranges.field-range v).1;
        bit-resolution = ranges.error-bit-top v;
        outside = apart (dec_le (slot.low_bit t) (slot.error_bit t));
      }
    where
      apart : Dec (slot.low_bit t ≤ slot.error_bit t) → (slot.error_bit t < slot.low_bit t) ⊎ (slot.high_bit t < slot.error_bit t)
      apart (yes y) = inr (ranges.error-bit-outside v y)
      apart (no n) = inl (omega (arith, n))

  -- the points' words
  point-x : (j : ℕ) → (point_at (points_of t) j).x ≡ slot.point_x t j
  unfolding points_of
  point-x j = get_or-drop 56 t (2 * j) (pos 0)

  pub point-y : (j : ℕ) → (point_at (points_of t) j).y ≡ slot.point_y t j
  unfolding points_of
  point-y j = get_or-drop 56 t (2 * j + 1) (pos 0) ∙ ap (slot.word_at t) (omega arith)

  long : length (points_of t) ≡ 48
  unfolding points_of
  long = length-drop 56 t ∙ omega (arith, v.long)

  word-within : (k : ℕ) → k < 48 → Within Z (get_or (points_of t) k (pos 0))
  unfolding points_of row_at row_of
  word-within k h =
      let f = le-ltb (56 + k) 56 (omega arith) in
      rw (get_or-drop 56 t k (pos 0)) (ranges.whole-range v (56 + k) (omega arith) (rw f) (rw f))

  -- check 6
  pub points-usable : (slot.linearization t ≡ 0 → ⊥) → Usable (points_of t) (slot.points_in_use t)
  points-usable on =
      record {
        long = omega (arith, long, ranges.points-in-use-range v);
        some = omega (arith, ranges.points-in-use-range v);
        within = λ k h. word-within k (omega (arith, ranges.points-in-use-range v));
        rises = λ j h. rw (point-x j, point-x (suc j)) (rw add-one at (ranges.points-rise v on j (rw add-one h))).lt;
      }

  pub scaling-sound : measurement.Sound (scaling_of t) (points_of t)
  unfolding scaling_of
  scaling-sound =
      record {
        offset = ranges.offset-range v;
        round-loop = ranges.round-loop-range v;
        factor = (ranges.factor-range v).1;
        divider = (ranges.divider-range v).0;
        additive = ranges.additive-range v;
        curve = linearizable (slot.linearization t) points-usable;
      }

  -- checks 6 and 7
  pub points-ordered : Ordered (slot.linearization t) (used_points (scaling_of t) (points_of t))
  unfolding used_points scaling_of
  points-ordered =
      ordered (slot.linearization t) (points_of t) (slot.points_in_use t) points-usable
      (λ e. let o = ranges.origin v e in ap₂ (λ (x y : ℤ). record { x = x; y = y }) (point-x 0 ∙ o.0) (point-y 0 ∙ o.1))

-- preselection k of the four
pub preselection-at : (t : List ℤ) (k : ℕ) → k < 4 → preselection_at (preselections_of t) k ≡ preselection_of t k
unfolding preselections_of
preselection-at t zero h = refl
preselection-at t (suc zero) h = refl
preselection-at t (suc (suc zero)) h = refl
preselection-at t (suc (suc (suc zero))) h = refl
preselection-at t (suc (suc (suc (suc k)))) h = absurd (omega arith)
