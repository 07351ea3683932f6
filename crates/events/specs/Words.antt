-- A word of the log: 4 bytes, the lowest first, and its parts, by kind.
-- Paper 01, "panelrun and its log", and "Where each check sits", log, 14. Bits are numbered 31 to 0 here.
--
--     kind, bits 31..30       carries             reserved
--     0 tick                  bits 15..0, ms      bits 29..16
--     1 levels                bits 2..0           bits 29..3
--     2 upper half            bits 15..0          bits 29..16
--     3 lower half            bits 15..0          bits 29..16
use Rattle.std.specs.Prelude.{Bool, cond, not, ℕ, ◌+◌, ◌-◌, ◌*◌, ◌/◌, ◌%◌, ◌^◌, eqb}
use Rattle.events.specs.declared.parts.Kind.{Kind}
use Rattle.events.specs.declared.parts.Kind.TheVariants.{Tick, Levels, Upper, Lower}

-- "all 4 bytes, lowest byte first"
abbrev pub word_at : ℕ → ℕ → ℕ → ℕ → ℕ
word_at b0 b1 b2 b3 = b0 + b1 * 2 ^ 8 + b2 * 2 ^ 16 + b3 * 2 ^ 24

-- bits high..low of a word
abbrev pub bits_of : ℕ → ℕ → ℕ → ℕ
bits_of high low w = w / 2 ^ low % 2 ^ (high + 1 - low)

-- "Bits 31..30 are the kind"
abbrev pub kind_of : ℕ → ℕ
kind_of w = bits_of 31 30 w

-- the numbers of the kinds
abbrev pub kind_number : Kind → ℕ
kind_number Tick = 0
kind_number Levels = 1
kind_number Upper = 2
kind_number Lower = 3

-- "0 tick (bits 15..0 ms)"
abbrev pub ms_of : ℕ → ℕ
ms_of w = bits_of 15 0 w

-- "1 levels (bits 2..0, input 1 lowest)"
abbrev pub levels_of : ℕ → ℕ
levels_of w = bits_of 2 0 w

-- "2 upper and 3 lower 16 bits of a telegram"
abbrev pub half_of : ℕ → ℕ
half_of w = bits_of 15 0 w

abbrev pub joined : ℕ → ℕ → ℕ
joined upper lower = upper * 2 ^ 16 + lower

-- "All others are reserved"
abbrev pub reserved_of : ℕ → ℕ
reserved_of w = cond (eqb (kind_of w) 1) (bits_of 29 3 w) (bits_of 29 16 w)

-- 14: reserved bits not zero
unfoldable pub reserved_set : ℕ → Bool
reserved_set w = not (eqb (reserved_of w) 0)
