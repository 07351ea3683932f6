-- A set of addresses, 0 to 255, as four words of 64 bits: address a is bit a % 64 of word a / 64. Bits are numbered from 0.
-- Main properties (AddressLaws): with an address and without it, every other stays as it was.
use Rattle.std.specs.Prelude.{Bool, ℕ, ◌/◌, ◌%◌, ◌^◌, eqb, get_or, set, replicate}
use Rattle.std.specs.Int.Bits.{bit_and, bit_or, bit_xor}
use Rattle.bits.specs.Bits.{bit_at}
use Rattle.addresses.specs.declared.Addresses.{Addresses}

-- the word that an address stands in
abbrev pub word_at : Addresses → ℕ → ℕ
word_at s a = get_or s.words (a / 64) 0

-- whether an address is in a set
unfoldable pub holds : Addresses → ℕ → Bool
holds s a = eqb (bit_at (a % 64) (word_at s a)) 1

-- no address is in a set: all its words are 0
unfoldable pub is_empty : Addresses → Bool
is_empty s = eqb (bit_or (bit_or (get_or s.words 0 0) (get_or s.words 1 0)) (bit_or (get_or s.words 2 0) (get_or s.words 3 0))) 0

-- the set with no address
abbrev pub nothing : Addresses
nothing = record { words = replicate 4 0 }

-- a set with an address: its bit is set
unfoldable pub including : Addresses → ℕ → Addresses
including s a = record { words = set s.words (a / 64) (bit_or (word_at s a) (2 ^ (a % 64))) }

-- a set without an address: its bit is cleared
unfoldable pub excluding : Addresses → ℕ → Addresses
excluding s a = record { words = set s.words (a / 64) (bit_xor (word_at s a) (bit_and (word_at s a) (2 ^ (a % 64)))) }
