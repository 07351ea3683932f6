-- The log of paper 01, "panelrun and its log", and logs that end with each number.
use Rattle.std.specs.Prelude.{◌≡◌, refl, List, [], ◌∷◌, ℕ}
use Rattle.events.specs.declared.Event.{Event}
use Rattle.events.specs.declared.Event.TheVariants.{Telegram, Levels, Tick}
use Rattle.events.specs.Words.{reserved_set}
use Rattle.events.specs.Log.{Log, accepted_of, taken_of, end_of, log_from, log_of}
use Rattle.events.specs.Bytes.{words_in, log_of_bytes}

abbrev pub gives : List Event → ℕ → Log
gives es refusal = record { events = es; refusal = refusal }

abbrev pub Cases : Type 0
Cases =
    -- the paper's log
    (log_of (0x80000000 ∷ 0xc00003e7 ∷ 0x80000000 ∷ 0xc00003e8 ∷ 0x40000001 ∷ 0x80000000 ∷ 0xc00003e6 ∷ []) 0
    ≡ gives (Telegram 999 ∷ Telegram 1000 ∷ Levels 1 ∷ Telegram 998 ∷ []) 0)
    -- an empty log
    × (log_of [] 0 ≡ gives [] 0)
    -- 14: bit 16 of a tick, bit 3 of levels; also directly after an upper half
    × (log_of (0x0000ffff ∷ 0x00010000 ∷ []) 0 ≡ gives (Tick 65535 ∷ []) 14)
    × (log_of (0x40000007 ∷ 0x40000008 ∷ []) 0 ≡ gives (Levels 7 ∷ []) 14)
    × (log_of (0x80000000 ∷ 0x00010000 ∷ []) 0 ≡ gives [] 14)
    -- 15: a lower half alone; a tick, another upper half and the end after an upper half
    × (log_of (0xc0000000 ∷ []) 0 ≡ gives [] 15)
    × (log_of (0x80000000 ∷ 0x00000001 ∷ []) 0 ≡ gives [] 15)
    × (log_of (0x80000000 ∷ 0x80000000 ∷ 0xc0000000 ∷ []) 0 ≡ gives [] 15)
    × (log_of (0x80000000 ∷ []) 0 ≡ gives [] 15)
    -- 16: bytes left over, also after an upper half; an earlier refusal comes first
    × (log_of (0x00000001 ∷ []) 3 ≡ gives (Tick 1 ∷ []) 16)
    × (log_of (0x80000000 ∷ []) 1 ≡ gives [] 16)
    × (log_of (0xc0000000 ∷ []) 1 ≡ gives [] 15)
    -- bytes, the lowest of a word first
    × (log_of_bytes (0x01 ∷ 0x02 ∷ 0x00 ∷ 0x00 ∷ 0x07 ∷ 0x00 ∷ 0x00 ∷ 0x40 ∷ 0x00 ∷ []) ≡ gives (Tick 513 ∷ Levels 7 ∷ []) 16)

pub cases : Cases
unfolding log_of log_from taken_of accepted_of end_of reserved_set log_of_bytes words_in
cases = (refl, refl, refl, refl, refl, refl, refl, refl, refl, refl, refl, refl, refl)
