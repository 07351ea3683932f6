-- A word in range, stored in a slot that no condition 3 to 9 looks at, leaves a table valid, and every other slot keeps its word. So it is with the offset that a
-- reset stores and the preselection that a teach stores. Paper 01, "Events and inputs".
use Rattle.std.specs.Prelude.{◌≡◌, Bool, true, false, not, ◌&&◌, List, [], ◌∷◌, ℕ, zero, suc, ◌+◌, ◌*◌, ◌<◌, ◌≤◌, ℤ, pos, neg_ℤ, length, get_or, set}
use Rattle.std.proofs.Math.Path.{refl}
use Rattle.std.proofs.Common.{sym, ap, ◌∙◌, arith, ne_eqb, le-ltb, length-set, get_or-set_same, get_or-set_other}
use Rattle.std.proofs.Math.Decide.{ℕ_discrete}
use Rattle.std.proofs.lemmas.Bool.{not-true}
use Rattle.std.specs.Int.Signed.{le_z}
use Rattle.integers.specs.Limit.{Z}
use Rattle.integers.specs.ChoiceLaws.{is_true}
use Rattle.integers.specs.TestLaws.{and_both}
use Rattle.integers.specs.Int.{P, N, Within}
use Rattle.integers.specs.IntLaws.{le_of}
use Rattle.parameters.specs.Rows.{row_of, row_at, in_range}
use Rattle.parameters.specs.Slots.{word_at, offset_slot, preselection_slot, offset, preselection, with_word, with_offset, with_preselection, layout_slots, scaling_slots, span_slots, preselection_slots, input_slots, first_point_slot}
use Rattle.parameters.specs.Alike.{Alike, stored_slot, misses, MissesFrom, unchecked_slot}
use Rattle.parameters.specs.SearchLaws.{some_same}
use Rattle.parameters.specs.Load.{field_wrong, error_bit_wrong, span_empty, not_above, points_not_rising, origin_missing, frozen_by_edge, freeze_on_edge, differ, differs_from, polarities_differ}
use Rattle.parameters.specs.Valid.{Valid}
use Rattle.parameters.proofs.RangeLaws.{three, four}

-- a store changes its own slot and no other
pub word-stored : (t : List ℤ) (slot : ℕ) (x : ℤ) → slot < length t → word_at (set t slot x) slot ≡ x
word-stored t slot x h = get_or-set_same t slot x (pos 0) h

pub word_kept : (t : List ℤ) (slot : ℕ) (x : ℤ) (other : ℕ) → (other ≡ slot → ⊥) → word_at (set t slot x) other ≡ word_at t other
word_kept t slot x other n = get_or-set_other t slot other x (pos 0) n

-- ---- tables alike

pub alike_refl : {touched : ℕ → Bool} (t : List ℤ) → Alike touched t t
alike_refl t = record { same = λ slot n. refl }

pub alike-sym : {touched : ℕ → Bool} {s t : List ℤ} → Alike touched s t → Alike touched t s
alike-sym a = record { same = λ slot n. sym (a.same slot n) }

pub alike-trans : {touched : ℕ → Bool} {s t u : List ℤ} → Alike touched s t → Alike touched t u → Alike touched s u
alike-trans a b = record { same = λ slot n. a.same slot n ∙ b.same slot n }

-- a table with one slot changed, beside the table
pub stored-alike : (touched : ℕ → Bool) (t : List ℤ) (slot : ℕ) (x : ℤ) → touched slot ≡ true → Alike touched (with_word t slot x) t
stored-alike touched t slot x y =
    record { same = λ other n. word_kept t slot x other (λ e. let z : ◌≡◌ {A = Bool} true false = sym y ∙ ap touched (sym e) ∙ n in let w : ◌≡◌ {A = ℕ} 0 1 = cc in absurd (omega arith)) }

pub offset-alike : (t : List ℤ) (x : ℤ) → Alike stored_slot (with_offset t x) t
offset-alike t x = stored-alike stored_slot t offset_slot x refl

pub preselection-alike : (t : List ℤ) (k : ℕ) (x : ℤ) → k < 4 → Alike stored_slot (with_preselection t k x) t
preselection-alike t k x h =
    stored-alike stored_slot t (preselection_slot k) x (four (λ (k : ℕ). stored_slot (preselection_slot k) ≡ true) refl refl refl refl k h)

-- a slot of a list that is missed
pub missed : (touched : ℕ → Bool) (slots : List ℕ) → misses touched slots ≡ true → (i : ℕ) → i < length slots → touched (get_or slots i 0) ≡ false
unfolding misses
missed touched [] m i h = absurd (omega arith)
missed touched (slot ∷ slots) m zero h = not-true (touched slot) (and_both (not (touched slot)) (misses touched slots) m).0
missed touched (slot ∷ slots) m (suc i) h = missed touched slots (and_both (not (touched slot)) (misses touched slots) m).1 i (omega arith)

-- ---- what resets and teaches miss

pub stored-layout : misses stored_slot layout_slots ≡ true
unfolding misses
stored-layout = refl

pub stored-scaling : misses stored_slot scaling_slots ≡ true
unfolding misses
stored-scaling = refl

pub stored-span : misses stored_slot span_slots ≡ true
unfolding misses
stored-span = refl

pub stored-input : (i : ℕ) → i < 3 → misses stored_slot (input_slots i) ≡ true
unfolding misses
stored-input i h = three (λ (i : ℕ). misses stored_slot (input_slots i) ≡ true) refl refl refl i h

pub stored-preselection : (k : ℕ) → k < 4 → misses stored_slot (preselection_slots k) ≡ true
unfolding misses
stored-preselection k h = four (λ (k : ℕ). misses stored_slot (preselection_slots k) ≡ true) refl refl refl refl k h

pub stored-points : MissesFrom stored_slot first_point_slot
stored-points slot h =
    rw (
      ne_eqb slot 5 (λ e. omega arith),
      ne_eqb slot 17 (λ e. omega arith),
      ne_eqb slot 25 (λ e. omega arith),
      ne_eqb slot 33 (λ e. omega arith),
      ne_eqb slot 41 (λ e. omega arith),
    )

-- ---- what the conditions 3 to 9 miss

from-points : (slot : ℕ) → 55 ≤ slot → unchecked_slot slot ≡ false
from-points slot h = rw (le-ltb slot 55 h)

-- no condition 3 to 9 tells tables apart that are alike outside the slots which none of them looks at
module _ {s t : List ℤ} (a : Alike unchecked_slot s t) where
  field_alike : field_wrong s ≡ field_wrong t
  unfolding field_wrong misses
  field_alike = rw (a.same 0 refl, a.same 3 refl, a.same 4 refl)

  error-bit-alike : error_bit_wrong s ≡ error_bit_wrong t
  unfolding error_bit_wrong misses
  error-bit-alike = rw (a.same 0 refl, a.same 3 refl, a.same 4 refl, a.same 8 refl)

  span-alike : span_empty s ≡ span_empty t
  unfolding span_empty misses
  span-alike = rw (a.same 15 refl, a.same 16 refl)

  point-alike : (slot : ℕ) → 55 ≤ slot → word_at s slot ≡ word_at t slot
  point-alike slot h = a.same slot (from-points slot h)

  above-alike : (j : ℕ) → not_above s j ≡ not_above t j
  unfolding not_above
  above-alike j = rw (point-alike 55 (omega arith), point-alike (56 + 2 * (j + 1)) (omega arith), point-alike (56 + 2 * j) (omega arith))

  points-alike : points_not_rising s ≡ points_not_rising t
  unfolding points_not_rising misses
  points-alike = rw (a.same 13 refl, some_same (not_above s) (not_above t) 23 (λ j h. above-alike j))

  origin-alike : origin_missing s ≡ origin_missing t
  unfolding origin_missing misses
  origin-alike = rw (a.same 13 refl, point-alike 56 (omega arith), point-alike 57 (omega arith))

  edge-alike : (i : ℕ) → i < 3 → frozen_by_edge s i ≡ frozen_by_edge t i
  unfolding frozen_by_edge misses
  edge-alike =
      three (λ (i : ℕ). frozen_by_edge s i ≡ frozen_by_edge t i)
      (rw (a.same 49 refl, a.same 50 refl))
      (rw (a.same 51 refl, a.same 52 refl))
      (rw (a.same 53 refl, a.same 54 refl))

  freeze-alike : freeze_on_edge s ≡ freeze_on_edge t
  unfolding freeze_on_edge
  freeze-alike = some_same (frozen_by_edge s) (frozen_by_edge t) 3 edge-alike

  -- target and polarity of preselection k + 1
  aim-alike : (k : ℕ) → k < 4 → (word_at s (21 + 8 * k) ≡ word_at t (21 + 8 * k)) × (word_at s (22 + 8 * k) ≡ word_at t (22 + 8 * k))
  unfolding misses
  aim-alike =
      four (λ (k : ℕ). (word_at s (21 + 8 * k) ≡ word_at t (21 + 8 * k)) × (word_at s (22 + 8 * k) ≡ word_at t (22 + 8 * k)))
      (a.same 21 refl, a.same 22 refl)
      (a.same 29 refl, a.same 30 refl)
      (a.same 37 refl, a.same 38 refl)
      (a.same 45 refl, a.same 46 refl)

  differ-alike : (j k : ℕ) → j < 4 → k < 4 → differ s j k ≡ differ t j k
  unfolding differ
  differ-alike j k h l = rw ((aim-alike j h).0, (aim-alike j h).1, (aim-alike k l).0, (aim-alike k l).1)

  polarities-alike : polarities_differ s ≡ polarities_differ t
  unfolding polarities_differ differs_from
  polarities-alike = some_same (differs_from s) (differs_from t) 4 (λ j h. some_same (differ s j) (differ t j) 4 (λ k l. differ-alike j k h l))

-- a word in its range, stored in a slot that no condition 3 to 9 looks at, leaves a valid table valid
pub valid-store : {t : List ℤ} → Valid t → (slot : ℕ) (x : ℤ) → unchecked_slot slot ≡ true → in_range slot x ≡ true → Valid (with_word t slot x)
valid-store {t} v slot x u e =
    let a = stored-alike unchecked_slot t slot x u in
    record {
      long = length-set t slot x ∙ v.long;
      ranged = λ other h. in-slot other h (ℕ_discrete other slot);
      field = field_alike a ∙ v.field;
      error-bit = error-bit-alike a ∙ v.error-bit;
      span = span-alike a ∙ v.span;
      points = points-alike a ∙ v.points;
      origin = origin-alike a ∙ v.origin;
      freeze = freeze-alike a ∙ v.freeze;
      polarities = polarities-alike a ∙ v.polarities;
    }
  where
    in-slot : (other : ℕ) → other < 104 → Dec (other ≡ slot) → in_range other (word_at (set t slot x) other) ≡ true
    in-slot other h (yes p) = rw (p, word-stored t slot x (omega (arith, v.long))) e
    in-slot other h (no n) = rw (word_kept t slot x other n) (v.ranged other h)

-- a word between two bounds passes their test; one from −Z to Z passes that of the offset and of the preselections
pub in_bounds : (l h x : ℤ) → P l + N x ≤ P x + N l → P x + N h ≤ P h + N x → (le_z l x && le_z x h) ≡ true
in_bounds l h x a b = rw (is_true (le_z l x) (le_of l x a).le, is_true (le_z x h) (le_of x h b).le)

whole_in : (x : ℤ) → Within Z x → (le_z (neg_ℤ (pos Z)) x && le_z x (pos Z)) ≡ true
whole_in x w = in_bounds (neg_ℤ (pos Z)) (pos Z) x (omega (arith, w.below)) (omega (arith, w.above))

pub valid-offset : {t : List ℤ} {x : ℤ} → Valid t → Within Z x → Valid (with_offset t x)
unfolding in_range row_at row_of misses
valid-offset {t} {x} v w = valid-store v offset_slot x refl (whole_in x w)

pub valid-preselection : {t : List ℤ} {x : ℤ} → Valid t → Within Z x → (k : ℕ) → k < 4 → Valid (with_preselection t k x)
unfolding in_range row_at row_of misses
valid-preselection {t} {x} v w k h =
    valid-store v (preselection_slot k) x (four (λ (k : ℕ). unchecked_slot (preselection_slot k) ≡ true) refl refl refl refl k h)
    (four (λ (k : ℕ). in_range (preselection_slot k) x ≡ true) (whole_in x w) (whole_in x w) (whole_in x w) (whole_in x w) k h)

-- what is stored is read back, and the other preselections are kept
pub offset-stored : {t : List ℤ} (x : ℤ) → Valid t → offset (with_offset t x) ≡ x
offset-stored {t} x v = word-stored t offset_slot x (omega (arith, v.long))

pub preselection-stored : {t : List ℤ} (k : ℕ) (x : ℤ) → Valid t → k < 4 → preselection (with_preselection t k x) k ≡ x
preselection-stored {t} k x v h = word-stored t (preselection_slot k) x (omega (arith, v.long))

pub preselection-kept : (t : List ℤ) (k : ℕ) (x : ℤ) (j : ℕ) → (j ≡ k → ⊥) → preselection (with_preselection t k x) j ≡ preselection t j
preselection-kept t k x j n = word_kept t (preselection_slot k) x (preselection_slot j) (λ e. n (omega arith))
