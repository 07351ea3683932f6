-- Words of 32 bits in two's complement. Paper 01, "panelrun and its log": table words are "signed"; document 002: a negative word is in two's complement.
-- Main property: a signed word and its bits give each other back (TwosComplementLaws, `signed-bits` and `bits-signed`). Assumes nothing.
use Rattle.std.specs.Prelude.{cond, ℕ, suc, ◌-◌, ◌^◌, ltb, ℤ, pos, negsuc, ◌-ℤ◌}

-- a word of 32 bits as a signed word: from 2 ^ 31 on it is 2 ^ 32 less
unfoldable pub signed_of : ℕ → ℤ
signed_of w = cond (ltb w (2 ^ 31)) (pos w) (pos w -ℤ pos (2 ^ 32))

-- the 32 bits of a signed word: of one below 0 it is 2 ^ 32 more
unfoldable pub bits_of : ℤ → ℕ
bits_of (pos n) = n
bits_of (negsuc n) = 2 ^ 32 - suc n
