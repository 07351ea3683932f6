-- Tables alike outside some slots read alike where these miss the settings of a reading: behind the same basis a telegram gives the same basis, and with the same
-- offset a basis gives the same reading and the same curve.
use Rattle.std.specs.Prelude.{◌≡◌, Bool, true, List, ℕ, ℤ, length}
use Rattle.measurement.specs.Measure.{used_points}
use Rattle.parameters.specs.Slots.{layout_slots, scaling_slots, span_slots, first_point_slot, offset}
use Rattle.parameters.specs.Alike.{Alike, misses, MissesFrom}
use Rattle.settings.specs.AlikeLaws.{layout-alike, direction-alike, loop-alike, mode-alike, used-alike, scaling-alike, points-alike, span-alike}
use Rattle.settings.specs.Settings.{scaling_of}
use Rattle.reading.specs.declared.Basis.{Basis}
use Rattle.reading.specs.Follow.{basis_after}
use Rattle.reading.specs.Reading.{accepts_of, directed_at, basis_of, measured_at, measurement_at, reading_of, halves_of, curve_from, slope_at}

module _ {touched : ℕ → Bool} {s t : List ℤ} (a : Alike touched s t) (layout : misses touched layout_slots ≡ true) where
  pub accepts-alike : (w : ℕ) → accepts_of s w ≡ accepts_of t w
  unfolding accepts_of
  accepts-alike w = rw (layout-alike a layout)

  module _ (scaling : misses touched scaling_slots ≡ true) where
    pub directed-alike : (w : ℕ) → directed_at s w ≡ directed_at t w
    unfolding directed_at
    directed-alike w = rw (layout-alike a layout, direction-alike a scaling)

    -- by itself, without a round loop
    pub plain-alike : (w : ℕ) → basis_of s w ≡ basis_of t w
    unfolding basis_of
    plain-alike w = rw (directed-alike w, layout-alike a layout)

    pub basis-alike : (b : Basis) (w : ℕ) → basis_after s b w ≡ basis_after t b w
    unfolding basis_after
    basis-alike b w = rw (plain-alike w, directed-alike w, layout-alike a layout, loop-alike a scaling)

module _ {touched : ℕ → Bool} {s t : List ℤ} (a : Alike touched s t) (scaling : misses touched scaling_slots ≡ true)
    (long : length s ≡ length t) (points : MissesFrom touched first_point_slot) where
  pub slope-alike : slope_at s ≡ slope_at t
  unfolding slope_at used_points scaling_of
  slope-alike = rw (points-alike a long points, mode-alike a scaling, used-alike a scaling)

  module _ (same : offset s ≡ offset t) where
    pub curve-alike : (d : ℕ) → curve_from s d ≡ curve_from t d
    unfolding curve_from
    curve-alike d = rw (scaling-alike a scaling same, points-alike a long points)

    pub reading-alike : misses touched span_slots ≡ true → (b : Basis) → reading_of s b ≡ reading_of t b
    unfolding reading_of measured_at
    reading-alike span b = rw (scaling-alike a scaling same, points-alike a long points, span-alike a span)

    -- and the same marks
    pub halves-alike : misses touched span_slots ≡ true → (b : Basis) → halves_of s b ≡ halves_of t b
    unfolding halves_of measurement_at measured_at
    halves-alike span b = rw (scaling-alike a scaling same, points-alike a long points, span-alike a span)
