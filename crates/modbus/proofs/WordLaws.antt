-- A word's bytes read back give the word, negative ones too; and std's reading of 32 bits in two's complement is that of the definitions.
use Rattle.std.specs.Prelude.{◌≡◌, refl, Bool, true, false, cond, ℕ, suc, ◌+◌, ◌-◌, ◌*◌, ◌/◌, ◌%◌, ◌^◌, ◌<◌, ltb, ℤ, pos, negsuc, ◌-ℤ◌, get_or}
use Rattle.std.proofs.Common.{ap, ◌∙◌, arith, to_z, of_z}
use Rattle.std.specs.Int.{w32}
use Rattle.std.specs.Int.Signed.{mag}
use mir.Val.{sel}
use Rattle.integers.specs.IntLaws.{sub_is, excl, eq_of}
use Rattle.integers.specs.TwosComplement.{signed_of, bits_of}
use Rattle.integers.proofs.TwosComplementLaws.{signed-bits}
use Rattle.modbus.specs.Words.{number, word_bytes, word_from}

-- a number of 16 bits from its own bytes
pub number-back : (n : ℕ) → number (n / 256) (n % 256) ≡ n
number-back n = omega arith

halves : (w : ℕ) → number (w / 2 ^ 16 / 256) (w / 2 ^ 16 % 256) * 2 ^ 16 + number (w % 2 ^ 16 / 256) (w % 2 ^ 16 % 256) ≡ w
halves w = omega arith

-- THE WORD'S BYTES READ BACK
abbrev pub read_back : ℤ → ℤ
read_back z = let l = word_bytes z in word_from (number (get_or l 0 0) (get_or l 1 0)) (number (get_or l 2 0) (get_or l 3 0))

pub word_back : (z : ℤ) → mag z < 2 ^ 31 → read_back z ≡ z
word_back z h = ap signed_of (halves (bits_of z)) ∙ signed-bits z h

-- ---- a word as std reads it
-- 2 ^ 32 less
less : (w : ℕ) → w < 2 ^ 32 → negsuc (2 ^ 32 - suc w) ≡ pos w -ℤ pos (2 ^ 32)
less w h = let z = pos w -ℤ pos (2 ^ 32) in eq_of (negsuc (2 ^ 32 - suc w)) z (omega (arith, sub_is (pos w) (pos (2 ^ 32)), excl z))

pub signed_read : (w : ℕ) → w < 2 ^ 32 → to_z w32 w ≡ signed_of w
unfolding signed_of
signed_read w h = by (ltb w (2 ^ 31))
  where
    by : (t : Bool) → sel t (pos w) (negsuc (2 ^ 32 - suc w)) ≡ cond t (pos w) (pos w -ℤ pos (2 ^ 32))
    by true = refl
    by false = less w h

pub bits-read : (z : ℤ) → of_z w32 z ≡ bits_of z
unfolding bits_of
bits-read (pos n) = refl
bits-read (negsuc n) = refl
