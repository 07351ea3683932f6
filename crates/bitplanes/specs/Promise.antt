-- What K8 promises, as claims in definitions alone; TurnedLaws proves each of them.
use Rattle.std.specs.Prelude.{◌≡◌, List, ◌++◌, ℕ, ◌+◌, ◌*◌, ◌/◌, ◌^◌, ◌≤◌, ◌<◌, length, get_or, drop, Ok}
use Rattle.bits.specs.Bits.{bit_at}
use Rattle.bitplanes.specs.Turned.{group_size, turned, turned_into}

-- every word has 32 bits
abbrev pub Words : List ℕ → Type 0
Words ts = (i : ℕ) → i < length ts → get_or ts i 0 < 2 ^ 32

-- us is ts with each bit at its place: in every full group g bit j of word i is bit i of word j, and a remainder is as it was
pub record Placed (ts us : List ℕ) : Type 0 where
  pub long : length us ≡ length ts
  pub bits : (g i j : ℕ) → g < length ts / group_size → i < group_size → j < group_size → bit_at i (get_or us (g * group_size + j) 0) ≡ bit_at j (get_or ts (g * group_size + i) 0)
  pub rest : drop (length ts / group_size * group_size) us ≡ drop (length ts / group_size * group_size) ts

-- turning puts each bit at its place
abbrev pub EachBitPlaced : Type 0
EachBitPlaced = (ts : List ℕ) → Placed ts (turned ts)

-- and it is the only thing done: no other list of words has the bits at those places
abbrev pub OnlyTurned : Type 0
OnlyTurned = (ts us : List ℕ) → Words ts → Words us → Placed ts us → us ≡ turned ts

-- words of 32 bits become words of 32 bits
abbrev pub WordsKept : Type 0
WordsKept = (ts : List ℕ) → Words ts → Words (turned ts)

-- "Turning again brings back the original list at every length"
abbrev pub TurnsBack : Type 0
TurnsBack = (ts : List ℕ) → Words ts → turned (turned ts) ≡ ts

-- the same of what `turn` leaves: handed what it stored, it gives the words back, and keeps the tail
abbrev pub ReadBack : Type 0
ReadBack = (ts old : List ℕ) → Words ts → length ts ≤ length old → turned_into (turned ts) old ≡ (Ok tt, ts ++ drop (length ts) old)
