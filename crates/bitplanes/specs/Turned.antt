-- Bit planes for the recorder: each full group of 32 telegrams is turned before storage. Paper 02, K8. Bits are numbered from 0 here.
-- What this comes to, bit by bit, and that turning again brings the list back, stands in Promise.
use Rattle.std.specs.Prelude.{cond, List, [], ◌∷◌, ◌++◌, ℕ, zero, suc, ◌+◌, ◌*◌, ◌/◌, ltb, length, take, drop, Result, Ok, Err}
use Rattle.bitplanes.specs.declared.TooShort.{TooShort}
use Rattle.bits.specs.Bits.{bit_at}

-- "group of 32": as many words as a word has bits
abbrev pub group_size : ℕ
group_size = 32

-- plane j of a list of words: its bit i is bit j of word i
unfoldable pub plane : ℕ → List ℕ → ℕ
plane j [] = 0
plane j (t ∷ ts) = plane j ts * 2 + bit_at j t

-- the n planes from plane j on
unfoldable pub planes : ℕ → ℕ → List ℕ → List ℕ
planes zero j ts = []
planes (suc n) j ts = plane j ts ∷ planes n (suc j) ts

-- "bit j of word i becomes bit i of word j, i and j from 0 to 31": a group's planes are its words
abbrev pub turned_group : List ℕ → List ℕ
turned_group ts = planes group_size 0 ts

-- the first n groups of s each made anew by f, the rest as it is
unfoldable pub in_groups : ℕ → (List ℕ → List ℕ) → ℕ → List ℕ → List ℕ
in_groups s f zero ts = ts
in_groups s f (suc n) ts = f (take s ts) ++ in_groups s f n (drop s ts)

-- "turns each full group of 32"; "A remainder of fewer than 32 is stored as it is"
abbrev pub turned : List ℕ → List ℕ
turned ts = in_groups group_size turned_group (length ts / group_size) ts

-- "22 output slice shorter than input"
abbrev pub too_short_number : TooShort → ℕ
too_short_number x = 22

-- an answer, and the output slice after it: "22 output slice shorter than input, nothing written"; else the slice is "filled exactly and nothing beyond is touched".
-- `all` is what the whole input is to become, as long as the input
abbrev pub filled : List ℕ → List ℕ → List ℕ → Result Unit TooShort × List ℕ
filled input all old = cond (ltb (length old) (length input)) (Err (record {}), old) (Ok tt, all ++ drop (length input) old)

-- what `turn` answers and leaves in the output slice
abbrev pub turned_into : List ℕ → List ℕ → Result Unit TooShort × List ℕ
turned_into ts old = filled ts (turned ts) old
