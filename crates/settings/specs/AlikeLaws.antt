-- Tables that are alike outside some slots have every setting in common whose slots are missed, whatever the set of slots is. The offset and the
-- preselections' values are asked for by themselves, since resets and teaches store them.
use Rattle.std.specs.Prelude.{◌≡◌, Bool, true, List, ℕ, ◌+◌, ◌-◌, ◌<◌, ℤ, pos, length, get_or}
use Rattle.std.proofs.Math.Path.{sym, ap}
use Rattle.std.proofs.Common.{◌∙◌, arith, length-drop}
use Rattle.std.proofs.Math.Seq.{ext_get_or, get_or-drop}
use Rattle.parameters.specs.Slots as slot
use Rattle.parameters.specs.Alike.{Alike, misses, MissesFrom}
use Rattle.parameters.proofs.StoreLaws.{missed}
use Rattle.settings.specs.Settings.{layout_of, scaling_of, points_of, span_of, preselection_of, preselections_of, input_at}

module _ {touched : ℕ → Bool} {s t : List ℤ} (a : Alike touched s t) where
  -- slot i of a list that is missed
  at : (slots : List ℕ) → misses touched slots ≡ true → (i : ℕ) → i < length slots → slot.word_at s (get_or slots i 0) ≡ slot.word_at t (get_or slots i 0)
  at slots m i h = a.same (get_or slots i 0) (missed touched slots m i h)

  pub layout-alike : misses touched slot.layout_slots ≡ true → layout_of s ≡ layout_of t
  unfolding layout_of
  layout-alike m =
      let e = at slot.layout_slots m in
      rw (e 0 (omega arith), e 1 (omega arith), e 2 (omega arith), e 3 (omega arith), e 4 (omega arith), e 5 (omega arith))

  pub direction-alike : misses touched slot.scaling_slots ≡ true → slot.direction s ≡ slot.direction t
  direction-alike m = rw (at slot.scaling_slots m 0 (omega arith))

  pub loop-alike : misses touched slot.scaling_slots ≡ true → slot.round_loop s ≡ slot.round_loop t
  loop-alike m = rw (at slot.scaling_slots m 1 (omega arith))

  -- the mode of the linearization, and how many points are used
  pub mode-alike : misses touched slot.scaling_slots ≡ true → slot.linearization s ≡ slot.linearization t
  mode-alike m = rw (at slot.scaling_slots m 5 (omega arith))

  pub used-alike : misses touched slot.scaling_slots ≡ true → slot.points_in_use s ≡ slot.points_in_use t
  used-alike m = rw (at slot.scaling_slots m 6 (omega arith))

  pub scaling-alike : misses touched slot.scaling_slots ≡ true → slot.offset s ≡ slot.offset t → scaling_of s ≡ scaling_of t
  unfolding scaling_of
  scaling-alike m same =
      let e = at slot.scaling_slots m in
      rw (same, e 0 (omega arith), e 1 (omega arith), e 2 (omega arith), e 3 (omega arith), e 4 (omega arith), e 5 (omega arith), e 6 (omega arith))

  pub points-alike : length s ≡ length t → MissesFrom touched slot.first_point_slot → points_of s ≡ points_of t
  unfolding points_of
  points-alike long m =
      ext_get_or (pos 0) _ _ (length-drop 56 s ∙ ap (λ (n : ℕ). n - 56) long ∙ sym (length-drop 56 t))
      (λ i h. get_or-drop 56 s i (pos 0) ∙ a.same (56 + i) (m (56 + i) (omega arith)) ∙ sym (get_or-drop 56 t i (pos 0)))

  pub span-alike : misses touched slot.span_slots ≡ true → span_of s ≡ span_of t
  unfolding span_of
  span-alike m =
      let e = at slot.span_slots m in
      rw (e 0 (omega arith), e 1 (omega arith), e 2 (omega arith))

  pub input-alike : (i : ℕ) → misses touched (slot.input_slots i) ≡ true → input_at s i ≡ input_at t i
  unfolding input_at
  input-alike i m =
      let e = at (slot.input_slots i) m in
      rw (e 0 (omega arith), e 1 (omega arith))

  pub preselection-alike : (k : ℕ) → misses touched (slot.preselection_slots k) ≡ true → slot.preselection s k ≡ slot.preselection t k → preselection_of s k ≡ preselection_of t k
  unfolding preselection_of
  preselection-alike k m same =
      let e = at (slot.preselection_slots k) m in
      rw (same, e 0 (omega arith), e 1 (omega arith), e 2 (omega arith), e 3 (omega arith), e 4 (omega arith), e 5 (omega arith), e 6 (omega arith))

  pub preselections-alike : ((k : ℕ) → k < 4 → misses touched (slot.preselection_slots k) ≡ true) → ((k : ℕ) → k < 4 → slot.preselection s k ≡ slot.preselection t k) →
      preselections_of s ≡ preselections_of t
  unfolding preselections_of
  preselections-alike m same =
      rw (each 0 (omega arith), each 1 (omega arith), each 2 (omega arith), each 3 (omega arith))
    where
      each : (k : ℕ) → k < 4 → preselection_of s k ≡ preselection_of t k
      each k h = preselection-alike k (m k h) (same k h)
