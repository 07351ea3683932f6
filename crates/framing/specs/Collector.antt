-- The bytes of a line as frames: they come one by one and in pieces of any size. Request K2; the public documents' silence between frames.
--
-- Bytes are held until they end a frame. Whatever ends none goes on until silence, and is the frame then: so a broken frame takes all with it up to there,
-- and so does one of more than 256 bytes, of which 257 are held.
-- Main property: how the bytes are cut into pieces does not matter (PieceLaws, `fed-pieces` and `heard-pieces`).
use Rattle.std.specs.Prelude.{true, false, cond, List, [], ◌∷◌, ℕ, ◌+◌, eqb, ltb, leb, take, set, replicate}
use Rattle.modbus.specs.Request.{most_bytes}
use Rattle.framing.specs.Ends.{is_foreign, stops}
use Rattle.framing.specs.declared.Collector.{Collector}

-- one more than a frame can have
abbrev pub most_held : ℕ
most_held = most_bytes + 1

-- the bytes held
abbrev pub held : Collector → List ℕ
held c = take c.length c.bytes

-- how many they are
unfoldable pub held_length : Collector → ℕ
held_length c = cond (leb c.length most_held) c.length most_held

-- nothing held
abbrev pub emptied : Collector → Collector
emptied c = record { bytes = c.bytes; length = 0; ended = false }

-- the bytes held are a frame, until the next byte
abbrev pub closed : Collector → Collector
closed c = record { bytes = c.bytes; length = c.length; ended = true }

-- a line on which nothing was sent
abbrev pub fresh_collector : Collector
fresh_collector = record { bytes = replicate most_held 0; length = 0; ended = false }

-- where the bytes held stop: those of another node are passed over, the others are a frame
unfoldable pub judged : ℕ → Collector → Collector
judged node c = cond (stops node (held c)) (cond (is_foreign node (held c)) (emptied c) (closed c)) c

-- n bytes held and one more
abbrev pub added : Collector → ℕ → ℕ → Collector
added c n b = record { bytes = set c.bytes n b; length = n + 1; ended = false }

-- the bytes that a new one follows: none behind a frame that has ended
abbrev pub kept : Collector → ℕ
kept c = cond c.ended 0 c.length

-- one byte; behind 257 it is dropped
unfoldable pub pushed : ℕ → Collector → ℕ → Collector
pushed node c b = cond (ltb (kept c) most_held) (judged node (added c (kept c) b)) c

-- silence: what is held is a frame
unfoldable pub quieted : Collector → Collector
quieted c = cond (eqb (kept c) 0) (emptied c) (closed c)

-- ---- bytes in order
unfoldable pub fed : ℕ → Collector → List ℕ → Collector
fed node c [] = c
fed node c (b ∷ l) = fed node (pushed node c b) l

-- the frames that end on the way
abbrev pub heard_at : Collector → List (List ℕ) → List (List ℕ)
heard_at c l = cond c.ended (held c ∷ l) l

unfoldable pub heard : ℕ → Collector → List ℕ → List (List ℕ)
heard node c [] = []
heard node c (b ∷ l) = heard_at (pushed node c b) (heard node (pushed node c b) l)

-- what a collector made of bytes: the collector behind them, and the place behind the last byte taken
pub record Fed : Type 0 where
  pub collector : Collector
  pub next : ℕ

abbrev pub fed_by : Collector → ℕ → Fed
fed_by c n = record { collector = c; next = n }

-- the bytes up to the end of a frame, from place i on: the collector, and the place behind them
unfoldable pub fed_to : ℕ → Collector → List ℕ → ℕ → Fed
fed_to node c [] i = record { collector = c; next = i }
fed_to node c (b ∷ l) i = cond (pushed node c b).ended (record { collector = pushed node c b; next = i + 1 }) (fed_to node (pushed node c b) l (i + 1))
