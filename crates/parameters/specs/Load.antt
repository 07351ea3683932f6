-- A table is refused with the number of the first condition of 1 to 9 that it meets, and loads exactly when it meets none.
-- Condenses paper 01, "Where each check sits", load.
use Rattle.std.specs.Prelude.{Some, None, Bool, false, not, ◌&&◌, ◌||◌, cond, List, [], ◌∷◌, ℕ, ◌+◌, ◌-◌, eqb, ltb, leb, ℤ, pos, negsuc, length, get_or}
use Rattle.std.specs.Int.Signed.{le_z}
use Rattle.parameters.specs.declared.Loaded.{Loaded}
use Rattle.parameters.specs.declared.Refusal.{Refusal}
use Rattle.parameters.specs.Refusals.{refusal_by}
use Rattle.parameters.specs.Rows.{lowest_out, default_table}
use Rattle.parameters.specs.Slots.{resolution, high_bit, low_bit, error_bit, linearization, analog_start, analog_end, target, polarity, action, config, points_in_use, point_x, point_y}
use Rattle.integers.specs.Choice.{some}
use Rattle.parameters.specs.Search.{first_of}

-- two whole numbers are equal
abbrev pub same_z : ℤ → ℤ → Bool
same_z (pos a) (pos b) = eqb a b
same_z (negsuc a) (negsuc b) = eqb a b
same_z (pos a) (negsuc b) = false
same_z (negsuc a) (pos b) = false

-- 1: not 104 words
unfoldable pub words_missing : List ℤ → Bool
words_missing t = not (eqb (length t) 104)

-- 2: a slot out of range
unfoldable pub slot_out : List ℤ → Bool
slot_out t = ltb (lowest_out t) 104

-- 3: B > H or H > N
unfoldable pub field_wrong : List ℤ → Bool
field_wrong t = ltb (high_bit t) (low_bit t) || ltb (resolution t) (high_bit t)

-- 4: error bit > N, or from B to H (0, none, is below every B)
unfoldable pub error_bit_wrong : List ℤ → Bool
error_bit_wrong t = ltb (resolution t) (error_bit t) || (leb (low_bit t) (error_bit t) && leb (error_bit t) (high_bit t))

-- 5: start equals end
unfoldable pub span_empty : List ℤ → Bool
span_empty t = same_z (analog_start t) (analog_end t)

-- 6: linearization on, used x not strictly rising: somewhere the next point is used too, and its x is not above
unfoldable pub not_above : List ℤ → ℕ → Bool
not_above t j = ltb (j + 1) (points_in_use t) && le_z (point_x t (j + 1)) (point_x t j)

unfoldable pub points_not_rising : List ℤ → Bool
points_not_rising t = not (eqb (linearization t) 0) && some 23 (not_above t)

-- 7: one quadrant, point 1 not (0, 0)
unfoldable pub origin_missing : List ℤ → Bool
origin_missing t = eqb (linearization t) 1 && not (same_z (point_x t 0) (pos 0) && same_z (point_y t 0) (pos 0))

-- 8: freeze (action 2) with config 2 or 3
unfoldable pub frozen_by_edge : List ℤ → ℕ → Bool
frozen_by_edge t i = eqb (action t i) 2 && (eqb (config t i) 2 || eqb (config t i) 3)

unfoldable pub freeze_on_edge : List ℤ → Bool
freeze_on_edge t = some 3 (frozen_by_edge t)

-- 9: two preselections on one output 1 to 4, polarities differ
unfoldable pub differ : List ℤ → ℕ → ℕ → Bool
differ t j k = not (eqb (target t j) 0) && (eqb (target t j) (target t k) && not (eqb (polarity t j) (polarity t k)))

unfoldable pub differs_from : List ℤ → ℕ → Bool
differs_from t j = some 4 (differ t j)

unfoldable pub polarities_differ : List ℤ → Bool
polarities_differ t = some 4 (differs_from t)

-- conditions 3 to 9, which hold slots against each other, and all nine
unfoldable pub conflicts : List ℤ → List Bool
conflicts t =
    field_wrong t ∷ error_bit_wrong t ∷ span_empty t ∷ points_not_rising t ∷ origin_missing t ∷ freeze_on_edge t ∷ polarities_differ t ∷ []

unfoldable pub conditions : List ℤ → List Bool
conditions t = words_missing t ∷ slot_out t ∷ conflicts t

-- condition n, from 1 to 9
unfoldable pub condition : List ℤ → ℕ → Bool
condition t n = get_or (conditions t) (n - 1) false

-- the number of the refusal, 0 where the table loads, and the slot it names, 0 except for 2
unfoldable pub load_refusal : List ℤ → ℕ
load_refusal t = first_of 1 (conditions t)

unfoldable pub load_slot : List ℤ → ℕ
load_slot t = cond (eqb (load_refusal t) 2) (lowest_out t) 0

-- what load answers: the table itself, or a refusal with the defaults as filler
abbrev pub refused_as : Refusal → Loaded
refused_as r = record { refusal = Some r; table = default_table }

abbrev pub refused_with : ℕ → ℕ → Loaded
refused_with n slot = record { refusal = refusal_by n slot; table = default_table }

unfoldable pub load_of : List ℤ → Loaded
load_of t = cond (eqb (load_refusal t) 0) (record { refusal = None; table = t }) (refused_with (load_refusal t) (load_slot t))
