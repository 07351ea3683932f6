-- A word of 32 bits in two registers of two bytes each.
-- Document 002 and the public Modbus documents: a register travels high byte first, and the low half of a word stands in the lower register.
-- Main property: a word's bytes read back give the word (WordLaws, `Word-back`).
use Rattle.std.specs.Prelude.{List, [], ◌∷◌, ◌++◌, ℕ, ◌+◌, ◌*◌, ◌/◌, ◌%◌, ◌^◌, ℤ}
use Rattle.integers.specs.TwosComplement.{signed_of, bits_of}

-- a number of 16 bits from its two bytes
abbrev pub number : ℕ → ℕ → ℕ
number high low = high * 256 + low

-- its bytes, high byte first
abbrev pub number_bytes : ℕ → List ℕ
number_bytes n = n / 256 ∷ (n % 256 ∷ [])

-- a word's bytes: its low half, then its high half
abbrev pub word_bytes : ℤ → List ℕ
word_bytes z = number_bytes (bits_of z % 2 ^ 16) ++ number_bytes (bits_of z / 2 ^ 16)

-- the word of the numbers in its two registers
abbrev pub word_from : ℕ → ℕ → ℤ
word_from low high = signed_of (high * 2 ^ 16 + low)
