-- What a valid table's slots are within, by their rows and by the checks. Arithmetic above rests on these.
use Rattle.std.proofs.Math.Path.{◌≡◌, refl}
use Rattle.std.specs.Prelude.{true, ◌&&◌, ◌||◌, not, List, ℕ, zero, suc, ◌+◌, ◌*◌, ◌<◌, ◌≤◌, ltb, ℤ, ◌<ℤ◌}
use Rattle.std.proofs.Math.Bool.{false}
use native.Mathlib.Omega.{arith}
use borrow.Author.Tests.{le-ltb, ltb-false, leb-false, lt-ltb, le-leb, ne_eqb, eq-eqb, not-false, eqb-true, eqb-false}
use Rattle.std.proofs.Math.Dec.{leb, eqb}
use Rattle.std.proofs.Math.IntN.{pos, neg_ℤ}
use Rattle.std.specs.Int.Signed.{le_z}
use Rattle.integers.specs.Limit.{Z}
use Rattle.integers.specs.Int.{P, Within}
use Rattle.integers.specs.IntLaws.{excl, within, le_z-true, le_z-false, lt_of}
use Rattle.parameters.specs.Rows.{low, high, row_of, row_at, in_range, whole}
use Rattle.parameters.specs.Slots.{word_at, nat_at, resolution, bits_per_turn, format, high_bit, low_bit, offset, direction, round_loop, error_bit, error_level, factor, divider, additive, linearization, analog_format, analog_start, analog_end, preselection, mode, hysteresis, pulse, target, polarity, lock, startup, action, config, points_in_use, point_x, point_y}
use Rattle.integers.specs.Choice.{some}
use Rattle.parameters.specs.SearchLaws.{some-none}
use Rattle.integers.specs.TestLaws.{or-both, and_both, and_second}
use Rattle.parameters.specs.Load.{same_z, field_wrong, error_bit_wrong, span_empty, not_above, points_not_rising, origin_missing, frozen_by_edge, freeze_on_edge, differ, differs_from, polarities_differ}
use Rattle.parameters.proofs.LoadLaws.{same-yes, same_true}
use Rattle.parameters.specs.Valid.{Valid}

-- a word between two bounds that are not negative, as a number
between : (l h : ℕ) (v : ℤ) → (le_z (pos l) v && le_z v (pos h)) ≡ true → (l ≤ P v) × (P v ≤ h)
between l h v e =
    let b = and_both (le_z (pos l) v) (le_z v (pos h)) e in
    let low = le_z-true (pos l) v b.0 in
    let high = le_z-true v (pos h) b.1 in
    (omega (arith, excl v), omega (arith, excl v))

-- a word from −Z to Z
whole-within : (v : ℤ) → (le_z (neg_ℤ (pos Z)) v && le_z v (pos Z)) ≡ true → Within Z v
whole-within v e =
    let b = and_both (le_z (neg_ℤ (pos Z)) v) (le_z v (pos Z)) e in
    within Z v (omega (arith, le_z-true v (pos Z) b.1)) (omega (arith, le_z-true (neg_ℤ (pos Z)) v b.0))

-- by the row of any slot
module _ {t : List ℤ} (v : Valid t) where
  pub nat-range : (slot : ℕ) → slot < 104 → (l h : ℕ) → low (row_at slot) ≡ pos l → high (row_at slot) ≡ pos h → (l ≤ nat_at t slot) × (nat_at t slot ≤ h)
  unfolding in_range
  nat-range slot b l h el eh = between l h (word_at t slot) (rw (el, eh) at (v.ranged slot b))

  pub whole-range : (slot : ℕ) → slot < 104 → low (row_at slot) ≡ neg_ℤ (pos Z) → high (row_at slot) ≡ pos Z → Within Z (word_at t slot)
  unfolding in_range
  whole-range slot b el eh = whole-within (word_at t slot) (rw (el, eh) at (v.ranged slot b))

-- each slot that stands alone
module _ {t : List ℤ} (v : Valid t) where
  pub resolution-range : (10 ≤ resolution t) × (resolution t ≤ 32)
  unfolding row_at row_of
  resolution-range = nat-range v 0 (omega arith) 10 32 refl refl

  pub bits-per-turn-range : (10 ≤ bits_per_turn t) × (bits_per_turn t ≤ 16)
  unfolding row_at row_of
  bits-per-turn-range = nat-range v 1 (omega arith) 10 16 refl refl

  pub format-range : format t ≤ 1
  unfolding row_at row_of
  format-range = (nat-range v 2 (omega arith) 0 1 refl refl).1

  pub high-bit-range : (1 ≤ high_bit t) × (high_bit t ≤ 32)
  unfolding row_at row_of
  high-bit-range = nat-range v 3 (omega arith) 1 32 refl refl

  pub low-bit-range : (1 ≤ low_bit t) × (low_bit t ≤ 32)
  unfolding row_at row_of
  low-bit-range = nat-range v 4 (omega arith) 1 32 refl refl

  pub direction-range : direction t ≤ 1
  unfolding row_at row_of
  direction-range = (nat-range v 6 (omega arith) 0 1 refl refl).1

  pub round-loop-range : round_loop t ≤ Z
  unfolding row_at row_of
  round-loop-range = (nat-range v 7 (omega arith) 0 Z refl refl).1

  pub error-bit-range : error_bit t ≤ 32
  unfolding row_at row_of
  error-bit-range = (nat-range v 8 (omega arith) 0 32 refl refl).1

  pub error-level-range : error_level t ≤ 1
  unfolding row_at row_of
  error-level-range = (nat-range v 9 (omega arith) 0 1 refl refl).1

  pub factor-range : (1 ≤ factor t) × (factor t ≤ 9999999)
  unfolding row_at row_of
  factor-range = nat-range v 10 (omega arith) 1 9999999 refl refl

  pub divider-range : (1 ≤ divider t) × (divider t ≤ 9999999)
  unfolding row_at row_of
  divider-range = nat-range v 11 (omega arith) 1 9999999 refl refl

  pub linearization-range : linearization t ≤ 2
  unfolding row_at row_of
  linearization-range = (nat-range v 13 (omega arith) 0 2 refl refl).1

  pub analog-format-range : analog_format t ≤ 2
  unfolding row_at row_of
  analog-format-range = (nat-range v 14 (omega arith) 0 2 refl refl).1

  pub points-in-use-range : (2 ≤ points_in_use t) × (points_in_use t ≤ 24)
  unfolding row_at row_of
  points-in-use-range = nat-range v 55 (omega arith) 2 24 refl refl

  pub offset-range : Within Z (offset t)
  unfolding row_at row_of
  offset-range = whole-range v 5 (omega arith) refl refl

  pub additive-range : Within Z (additive t)
  unfolding row_at row_of
  additive-range = whole-range v 12 (omega arith) refl refl

  pub analog-start-range : Within Z (analog_start t)
  unfolding row_at row_of
  analog-start-range = whole-range v 15 (omega arith) refl refl

  pub analog-end-range : Within Z (analog_end t)
  unfolding row_at row_of
  analog-end-range = whole-range v 16 (omega arith) refl refl

-- what holds of each preselection, and of each input, by the four and the three of them
pub four : (Q : ℕ → Type 0) → Q 0 → Q 1 → Q 2 → Q 3 → (k : ℕ) → k < 4 → Q k
four Q a b c d zero h = a
four Q a b c d (suc zero) h = b
four Q a b c d (suc (suc zero)) h = c
four Q a b c d (suc (suc (suc zero))) h = d
four Q a b c d (suc (suc (suc (suc k)))) h = absurd (omega arith)

pub three : (Q : ℕ → Type 0) → Q 0 → Q 1 → Q 2 → (i : ℕ) → i < 3 → Q i
three Q a b c zero h = a
three Q a b c (suc zero) h = b
three Q a b c (suc (suc zero)) h = c
three Q a b c (suc (suc (suc i))) h = absurd (omega arith)

-- a slot's row goes from 0 to h
abbrev UpTo : ℕ → ℕ → Type 0
UpTo h slot = (low (row_at slot) ≡ pos 0) × (high (row_at slot) ≡ pos h)

-- the slots of preselection k + 1
module _ {t : List ℤ} (v : Valid t) (k : ℕ) (b : k < 4) where
  pub preselection-range : Within Z (preselection t k)
  unfolding row_at row_of
  preselection-range =
      whole-range v (17 + 8 * k) (omega arith)
      (four (λ (k : ℕ). low (row_at (17 + 8 * k)) ≡ neg_ℤ (pos Z)) refl refl refl refl k b)
      (four (λ (k : ℕ). high (row_at (17 + 8 * k)) ≡ pos Z) refl refl refl refl k b)

  of-each : (first h : ℕ) → first < 80 → UpTo h (first + 8 * k) → nat_at t (first + 8 * k) ≤ h
  of-each first h l r = (nat-range v (first + 8 * k) (omega arith) 0 h r.0 r.1).1

  pub mode-range : mode t k ≤ 6
  unfolding row_at row_of
  mode-range = of-each 18 6 (omega arith) (four (λ (k : ℕ). UpTo 6 (18 + 8 * k)) (refl, refl) (refl, refl) (refl, refl) (refl, refl) k b)

  pub hysteresis-range : hysteresis t k ≤ 9999
  unfolding row_at row_of
  hysteresis-range = of-each 19 9999 (omega arith) (four (λ (k : ℕ). UpTo 9999 (19 + 8 * k)) (refl, refl) (refl, refl) (refl, refl) (refl, refl) k b)

  pub pulse-range : pulse t k ≤ 60000
  unfolding row_at row_of
  pulse-range = of-each 20 60000 (omega arith) (four (λ (k : ℕ). UpTo 60000 (20 + 8 * k)) (refl, refl) (refl, refl) (refl, refl) (refl, refl) k b)

  pub target-range : target t k ≤ 4
  unfolding row_at row_of
  target-range = of-each 21 4 (omega arith) (four (λ (k : ℕ). UpTo 4 (21 + 8 * k)) (refl, refl) (refl, refl) (refl, refl) (refl, refl) k b)

  pub polarity-range : polarity t k ≤ 1
  unfolding row_at row_of
  polarity-range = of-each 22 1 (omega arith) (four (λ (k : ℕ). UpTo 1 (22 + 8 * k)) (refl, refl) (refl, refl) (refl, refl) (refl, refl) k b)

  pub lock-range : lock t k ≤ 1
  unfolding row_at row_of
  lock-range = of-each 23 1 (omega arith) (four (λ (k : ℕ). UpTo 1 (23 + 8 * k)) (refl, refl) (refl, refl) (refl, refl) (refl, refl) k b)

  pub startup-range : startup t k ≤ 1
  unfolding row_at row_of
  startup-range = of-each 24 1 (omega arith) (four (λ (k : ℕ). UpTo 1 (24 + 8 * k)) (refl, refl) (refl, refl) (refl, refl) (refl, refl) k b)

-- the slots of input i + 1
module _ {t : List ℤ} (v : Valid t) (i : ℕ) (b : i < 3) where
  pub action-range : action t i ≤ 8
  unfolding row_at row_of
  action-range =
      let r = three (λ (i : ℕ). UpTo 8 (49 + 2 * i)) (refl, refl) (refl, refl) (refl, refl) i b in
      (nat-range v (49 + 2 * i) (omega arith) 0 8 r.0 r.1).1

  pub config-range : config t i ≤ 3
  unfolding row_at row_of
  config-range =
      let r = three (λ (i : ℕ). UpTo 3 (50 + 2 * i)) (refl, refl) (refl, refl) (refl, refl) i b in
      (nat-range v (50 + 2 * i) (omega arith) 0 3 r.0 r.1).1

-- the slots of point j + 1
module _ {t : List ℤ} (v : Valid t) (j : ℕ) (b : j < 24) where
  point-row : (slot : ℕ) → 56 ≤ slot → row_at slot ≡ whole 0
  unfolding row_at row_of
  point-row slot l = rw (le-ltb slot 56 l)

  pub point-x-range : Within Z (point_x t j)
  point-x-range = let r = point-row (56 + 2 * j) (omega arith) in whole-range v (56 + 2 * j) (omega arith) (rw r) (rw r)

  pub point-y-range : Within Z (point_y t j)
  point-y-range = let r = point-row (57 + 2 * j) (omega arith) in whole-range v (57 + 2 * j) (omega arith) (rw r) (rw r)

-- what the conditions 3 to 9 give where they are not met
module _ {t : List ℤ} (v : Valid t) where
  -- 3: B ≤ H ≤ N
  pub field-range : (low_bit t ≤ high_bit t) × (high_bit t ≤ resolution t)
  unfolding field_wrong
  field-range =
      let o = or-both (ltb (high_bit t) (low_bit t)) (ltb (resolution t) (high_bit t)) v.field in
      (ltb-false (high_bit t) (low_bit t) o.0, ltb-false (resolution t) (high_bit t) o.1)

  -- 4: the error bit is at most N, and not from B to H
  pub error-bit-top : error_bit t ≤ resolution t
  unfolding error_bit_wrong
  error-bit-top = ltb-false (resolution t) (error_bit t) (or-both (ltb (resolution t) (error_bit t)) _ v.error-bit).0

  pub error-bit-outside : low_bit t ≤ error_bit t → high_bit t < error_bit t
  unfolding error_bit_wrong
  error-bit-outside l =
      let o = or-both (ltb (resolution t) (error_bit t)) (leb (low_bit t) (error_bit t) && leb (error_bit t) (high_bit t)) v.error-bit in
      leb-false (error_bit t) (high_bit t) (and_second (leb (low_bit t) (error_bit t)) (leb (error_bit t) (high_bit t)) o.1 (le-leb (low_bit t) (error_bit t) l))

  -- 5: start and end differ
  pub span-real : analog_start t ≡ analog_end t → ⊥
  unfolding span_empty
  span-real e = let y = same-yes (analog_start t) (analog_end t) e in let n = v.span in let z : ◌≡◌ {A = ℕ} 0 1 = cc in omega arith

  -- 6: with linearization on, each used x is below the next
  pub points-rise : (linearization t ≡ 0 → ⊥) → (j : ℕ) → j + 1 < points_in_use t → point_x t j <ℤ point_x t (j + 1)
  unfolding points_not_rising not_above
  points-rise on j u =
      let f : some 23 (not_above t) ≡ false = and_second (not (eqb (linearization t) 0)) (some 23 (not_above t)) v.points (rw (ne_eqb (linearization t) 0 on)) in
      let n = some-none (not_above t) 23 j f (omega (arith, points-in-use-range v)) in
      lt_of (point_x t j) (point_x t (j + 1))
      (le_z-false (point_x t (j + 1)) (point_x t j) (and_second (ltb (j + 1) (points_in_use t)) (le_z (point_x t (j + 1)) (point_x t j)) n (lt-ltb (j + 1) (points_in_use t) u)))

  -- 7: in one quadrant, point 1 is (0, 0)
  pub origin : linearization t ≡ 1 → (point_x t 0 ≡ pos 0) × (point_y t 0 ≡ pos 0)
  unfolding origin_missing
  origin e =
      let f = and_second (eqb (linearization t) 1) (not (same_z (point_x t 0) (pos 0) && same_z (point_y t 0) (pos 0))) v.origin (eq-eqb (linearization t) 1 e) in
      let b = and_both (same_z (point_x t 0) (pos 0)) (same_z (point_y t 0) (pos 0)) (not-false _ f) in
      (same_true (point_x t 0) (pos 0) b.0, same_true (point_y t 0) (pos 0) b.1)

  -- 8: an input set to freeze has config 0 or 1
  pub freeze-config : (i : ℕ) → i < 3 → action t i ≡ 2 → config t i ≤ 1
  unfolding freeze_on_edge frozen_by_edge
  freeze-config i b e =
      let f = some-none (frozen_by_edge t) 3 i v.freeze b in
      let o = or-both (eqb (config t i) 2) (eqb (config t i) 3) (and_second (eqb (action t i) 2) (eqb (config t i) 2 || eqb (config t i) 3) f (eq-eqb (action t i) 2 e)) in
      let n2 = eqb-false (config t i) 2 o.0 in
      let n3 = eqb-false (config t i) 3 o.1 in
      omega (arith, config-range v i b)

  -- 9: preselections on one output have one polarity
  pub polarities-same : (j k : ℕ) → j < 4 → k < 4 → 1 ≤ target t j → target t j ≡ target t k → polarity t j ≡ polarity t k
  unfolding polarities_differ differs_from differ
  polarities-same j k bj bk l e =
      let f = some-none (differ t j) 4 k (some-none (differs_from t) 4 j v.polarities bj) bk in
      let g = and_second (not (eqb (target t j) 0)) _ f (rw (ne_eqb (target t j) 0 (λ z. omega arith))) in
      let h = and_second (eqb (target t j) (target t k)) (not (eqb (polarity t j) (polarity t k))) g (eq-eqb (target t j) (target t k) e) in
      eqb-true (polarity t j) (polarity t k) (not-false _ h)
