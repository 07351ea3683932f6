-- Every slot of the parameter table has one row: a low end, a high end, and a default. The points share the last row.
-- Condenses paper 01, "The parameter table", and paper 02, K1.
use Rattle.std.specs.Prelude.{Bool, ◌&&◌, cond, Option, Some, None, List, [], ◌∷◌, ◌++◌, ℕ, zero, suc, ◌+◌, ◌*◌, ltb, ℤ, pos, neg_ℤ, get_or}
use Rattle.std.specs.Int.Signed.{le_z}
use Rattle.integers.specs.Limit.{Z}
use Rattle.parameters.specs.declared.rows.Row.{Row}

-- a row's lowest word, highest word and default
abbrev pub low : Row → ℤ
low r = r.0

abbrev pub high : Row → ℤ
high r = r.1

abbrev pub default : Row → ℤ
default r = r.2

-- a row of numbers from l to h; one of numbers from 0 to h; one of whole numbers from −Z to Z. The default stands last.
abbrev pub from : ℕ → ℕ → ℕ → Row
from l h d = (pos l, pos h, pos d)

abbrev pub up_to : ℕ → ℕ → Row
up_to h d = from 0 h d

abbrev pub whole : ℕ → Row
whole d = (neg_ℤ (pos Z), pos Z, pos d)

-- slots 17 + 8k to 24 + 8k: preselection k + 1
abbrev pub preselection_rows : ℕ → List Row
preselection_rows k =
    whole (1000 * (k + 1)) ∷  -- 17 + 8k: preselection
    up_to 6 0 ∷  -- 18 + 8k: its mode
    up_to 9999 2 ∷  -- 19 + 8k: hysteresis, 2 by K1
    up_to 60000 0 ∷  -- 20 + 8k: pulse, ms
    up_to 4 (k + 1) ∷  -- 21 + 8k: target output, 0 none
    up_to 1 0 ∷  -- 22 + 8k: polarity, 1 active low
    up_to 1 0 ∷  -- 23 + 8k: lock
    up_to 1 0 ∷  -- 24 + 8k: start-up suppression
    []

-- two slots for each of the inputs 1, 2, 3, from 49 on
abbrev pub input_rows : List Row
input_rows =
    up_to 8 0 ∷  -- 49, 51, 53: action
    up_to 3 2 ∷  -- 50, 52, 54: its config
    []

abbrev pub rows : List Row
rows =
    from 10 32 25 ∷  -- 0: resolution N
    from 10 16 13 ∷  -- 1: bits per turn
    up_to 1 0 ∷  -- 2: format, 0 Gray, 1 binary
    from 1 32 25 ∷  -- 3: high bit H
    from 1 32 1 ∷  -- 4: low bit B
    whole 0 ∷  -- 5: offset O
    up_to 1 0 ∷  -- 6: direction, 1 reverse
    up_to Z 0 ∷  -- 7: round loop R, 0 off
    up_to 32 0 ∷  -- 8: error bit, 0 none
    up_to 1 1 ∷  -- 9: level of the error bit that means error
    from 1 9999999 100000 ∷  -- 10: factor
    from 1 9999999 100000 ∷  -- 11: divider
    whole 0 ∷  -- 12: additive value A
    up_to 2 0 ∷  -- 13: linearization, 0 off, 1 one quadrant, 2 four
    up_to 2 0 ∷  -- 14: analog, 0 ±10 V, 1 0..20 mA, 2 4..20 mA
    whole 0 ∷  -- 15: analog start
    whole 10000 ∷  -- 16: analog end
    preselection_rows 0 ++ (preselection_rows 1 ++ (preselection_rows 2 ++ (preselection_rows 3 ++
    (input_rows ++ (input_rows ++ (input_rows ++
    (from 2 24 2 ∷  -- 55: points in use
    whole 0 ∷  -- 56..103: points, x then y
    [])))))))

-- the row of a slot
unfoldable pub row_of : ℕ → ℕ
row_of slot = cond (ltb slot 56) slot 56

unfoldable pub row_at : ℕ → Row
row_at slot = get_or rows (row_of slot) (up_to 0 0)

-- a word within the range of a slot
unfoldable pub in_range : ℕ → ℤ → Bool
in_range slot v = le_z (low (row_at slot)) v && le_z v (high (row_at slot))

-- the lowest slot, counted from i, whose word is out of range; past the last word where there is none
unfoldable pub out_from : ℕ → List ℤ → ℕ
out_from i [] = i
out_from i (v ∷ vs) = cond (in_range i v) (out_from (suc i) vs) i

abbrev pub lowest_out : List ℤ → ℕ
lowest_out t = out_from 0 t

-- that slot of a table, none where every word is in range
unfoldable pub slot_out_of : List ℤ → Option ℕ
slot_out_of t = cond (ltb (lowest_out t) 104) (Some (lowest_out t)) None

-- the defaults of n slots from slot i on, and of all
unfoldable pub defaults_from : ℕ → ℕ → List ℤ
defaults_from i zero = []
defaults_from i (suc n) = default (row_at i) ∷ defaults_from (suc i) n

unfoldable pub default_table : List ℤ
default_table = defaults_from 0 104
