-- The condition of a preselection: for every mode, result and preselection, whether it is on after an event, by the comparison of its mode.
-- Paper 01, "Switching", the list of modes. Assumes nothing.
use Rattle.std.specs.Prelude.{Bool, true, false, cond, [], ◌∷◌, ℕ, ◌*◌, leb, ℤ, pos, nat_abs, ◌+ℤ◌, ◌-ℤ◌, get_or}
use Rattle.std.specs.Int.Signed.{le_z, lt_z}

-- Switching, "mode": the entry of modes 0 to 6, in this order. A mode above 6, which no loaded table has, counts as 6
abbrev pub by_mode : {A : Type 0} → ℕ → A → A → A → A → A → A → A → A
by_mode mode x₀ x₁ x₂ x₃ x₄ x₅ x₆ = get_or (x₀ ∷ x₁ ∷ x₂ ∷ x₃ ∷ x₄ ∷ x₅ ∷ []) mode x₆

-- Switching, "without sign"
abbrev pub magnitude_of : ℤ → ℤ
magnitude_of z = pos (nat_abs z)

-- Switching, "on at .., off at .., else kept"
unfoldable pub latched_of : Bool → Bool → Bool → Bool
latched_of on off was = cond on true (cond off false was)

-- Switching, mode 3: on at r ≥ P, off at r < P − h, else kept
unfoldable pub on_above : ℤ → ℤ → ℕ → Bool → Bool
on_above r p h was = latched_of (le_z p r) (lt_z r (p -ℤ pos h)) was

-- Switching, mode 4: on at r ≤ P, off at r > P + h, else kept
unfoldable pub on_below : ℤ → ℤ → ℕ → Bool → Bool
on_below r p h was = latched_of (le_z r p) (lt_z (p +ℤ pos h) r) was

-- Switching, mode 5: on exactly when 2 × |r − P| ≤ h
unfoldable pub on_near : ℤ → ℤ → ℕ → Bool
on_near r p h = leb (2 * nat_abs (r -ℤ p)) h

-- Switching, what a mode compares: modes 0, 1 and 2 take r without its sign
unfoldable pub compared : ℕ → ℤ → ℤ
compared mode r = by_mode mode (magnitude_of r) (magnitude_of r) (magnitude_of r) r r r r

-- Switching, what it compares with: P, in modes 0, 1 and 2 without its sign, in mode 6 the partner's minus the own
unfoldable pub against : ℕ → ℤ → ℤ → ℤ
against mode own partner = by_mode mode (magnitude_of own) (magnitude_of own) (magnitude_of own) own own own (partner -ℤ own)

-- Switching, the modes: 0 and 6 as 3, 1 as 4, 2 as 5, each on what it compares
unfoldable pub rule_of : ℕ → ℤ → ℤ → ℕ → Bool → Bool
rule_of mode r p h was =
    by_mode mode
    (on_above r p h was)
    (on_below r p h was)
    (on_near r p h)
    (on_above r p h was)
    (on_below r p h was)
    (on_near r p h)
    (on_above r p h was)

-- Switching, "condition": from the mode, r, the own and the partner's preselection, h, and the condition before
unfoldable pub condition_of : ℕ → ℤ → ℤ → ℤ → ℕ → Bool → Bool
condition_of mode r own partner h was = rule_of mode (compared mode r) (against mode own partner) h was

-- Switching, "r (|r| in mode 1) exceeds the P (|P|)": as the mode compares
unfoldable pub exceeds : ℕ → ℤ → ℤ → Bool
exceeds mode r own = lt_z (compared mode own) (compared mode r)
