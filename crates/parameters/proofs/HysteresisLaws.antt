-- Hysteresis comes as 2 for all four preselections, and stored tables keep what they hold: one with hysteresis 0 loads as it is. Paper 02, K1.
use Rattle.std.specs.Prelude.{◌≡◌, refl, None, true, ◌&&◌, List, ℕ, ◌+◌, ◌*◌, ◌<◌, ◌≤◌, ℤ, pos}
use Rattle.std.proofs.Common.{arith, ne_eqb}
use Rattle.std.specs.Int.Signed.{le_z}
use Rattle.parameters.specs.Rows.{row_of, row_at, in_range, defaults_from, default_table}
use Rattle.parameters.specs.Slots.{hysteresis, with_word}
use Rattle.parameters.specs.Alike.{misses, unchecked_slot}
use Rattle.parameters.specs.Load.{load_refusal, load_of}
use Rattle.parameters.specs.Valid.{Valid}
use Rattle.parameters.proofs.ValidLaws.{loads, valid-loads}
use Rattle.parameters.proofs.RangeLaws.{four}
use Rattle.parameters.proofs.StoreLaws.{word-stored, in_bounds, valid-store}

-- the default of all four
pub default-hysteresis : (k : ℕ) → k < 4 → hysteresis default_table k ≡ 2
unfolding default_table defaults_from row_at row_of
default-hysteresis k h = four (λ (k : ℕ). hysteresis default_table k ≡ 2) refl refl refl refl k h

-- and of the filler of a refused load
pub filler-hysteresis : (t : List ℤ) → (load_refusal t ≡ 0 → ⊥) → (k : ℕ) → k < 4 → hysteresis (load_of t).table k ≡ 2
unfolding load_of
filler-hysteresis t n k h = rw (ne_eqb (load_refusal t) 0 n) (default-hysteresis k h)

-- the table with the hysteresis of preselection k + 1 changed
abbrev pub with_hysteresis : List ℤ → ℕ → ℕ → List ℤ
with_hysteresis t k h = with_word t (19 + 8 * k) (pos h)

valid-hysteresis : {t : List ℤ} → Valid t → (k h : ℕ) → k < 4 → h ≤ 9999 → Valid (with_hysteresis t k h)
unfolding in_range row_at row_of misses
valid-hysteresis v k h b l =
    valid-store v (19 + 8 * k) (pos h) (four (λ (k : ℕ). unchecked_slot (19 + 8 * k) ≡ true) refl refl refl refl k b)
    (four (λ (k : ℕ). in_range (19 + 8 * k) (pos h) ≡ true) fits fits fits fits k b)
  where
    fits : (le_z (pos 0) (pos h) && le_z (pos h) (pos 9999)) ≡ true
    fits = in_bounds (pos 0) (pos 9999) (pos h) (omega arith) (omega arith)

-- a table that loads, with any hysteresis from 0 to 9,999 in place of its own, loads as it is
pub hysteresis-kept : (t : List ℤ) → load_refusal t ≡ 0 → (k h : ℕ) → k < 4 → h ≤ 9999 →
    load_of (with_hysteresis t k h) ≡ record { refusal = None; table = with_hysteresis t k h }
unfolding load_of
hysteresis-kept t e k h b l = rw (valid-loads (valid-hysteresis (loads t e) k h b l))

-- so a stored 0 is not refused, and stays 0
pub zero-kept : (t : List ℤ) → load_refusal t ≡ 0 → (k : ℕ) → k < 4 →
    ((load_of (with_hysteresis t k 0)).refusal ≡ None) × (hysteresis (load_of (with_hysteresis t k 0)).table k ≡ 0)
zero-kept t e k b =
    let kept = hysteresis-kept t e k 0 b (omega arith) in
    (rw kept, rw (kept, word-stored t (19 + 8 * k) (pos 0) (omega (arith, (loads t e).long))))
