-- How the code turns a group: five rounds of masks and shifts. In a round of width w each two words that are w apart exchange blocks of w bits.
-- RoundLaws shows that the five rounds are the group turned.
use Rattle.std.specs.Prelude.{List, [], ◌∷◌, ◌≡◌, ℕ, zero, suc, ◌+◌, ◌-◌, ◌*◌, ◌/◌, ◌%◌, ◌^◌, ◌<◌, get_or}
use Rattle.std.specs.Int.Bits.{bit_and, bit_xor}

-- the widths of the rounds
pub data Width : ℕ → Type 0 where
  by1 : Width 1
  by2 : Width 2
  by4 : Width 4
  by8 : Width 8
  by16 : Width 16

-- r is the lower word of pair p of 16: p with a 0 put in above its part below w
pub record First (w p r : ℕ) : Type 0 where
  pub is : r ≡ 2 * p - p % w
  pub room : r + w < 32

-- w ones, w zeros, w ones .. up to bit 31: hex 0000ffff, 00ff00ff, 0f0f0f0f, 33333333, 55555555
unfoldable pub mask_of : ℕ → ℕ
mask_of w = (2 ^ 32 - 1) / (2 ^ w + 1)

-- of two words x and y that are w apart: where the odd blocks of x and the even ones of y differ, bits at the even blocks
unfoldable pub crossing : ℕ → ℕ → ℕ → ℕ
crossing w x y = bit_and (bit_xor (x / 2 ^ w) y) (mask_of w)

-- put to both by exclusive or it exchanges those blocks: the lower word keeps its even blocks, and its odd blocks are y's even ones;
unfoldable pub lower_of : ℕ → ℕ → ℕ → ℕ
lower_of w x y = bit_xor (x % 2 ^ 32) (crossing w x y * 2 ^ w % 2 ^ 32)

-- the upper word keeps its odd blocks, and its even blocks are x's odd ones
unfoldable pub upper_of : ℕ → ℕ → ℕ → ℕ
upper_of w x y = bit_xor (y % 2 ^ 32) (crossing w x y)

-- x for 0, else y
abbrev pub chosen : ℕ → ℕ → ℕ → ℕ
chosen zero x y = x
chosen (suc n) x y = y

-- word i after the round
unfoldable pub exchanged_word : ℕ → List ℕ → ℕ → ℕ
exchanged_word w ts i = chosen (i / w % 2) (lower_of w (get_or ts i 0) (get_or ts (i + w) 0)) (upper_of w (get_or ts (i - w) 0) (get_or ts i 0))

-- the n words from word i on after the round
unfoldable pub exchanged_from : ℕ → ℕ → ℕ → List ℕ → List ℕ
exchanged_from zero i w ts = []
exchanged_from (suc n) i w ts = exchanged_word w ts i ∷ exchanged_from n (suc i) w ts

-- the group after the round
abbrev pub exchanged : ℕ → List ℕ → List ℕ
exchanged w ts = exchanged_from 32 0 w ts

-- the group after the five rounds
abbrev pub five_rounds : List ℕ → List ℕ
five_rounds ts = exchanged 1 (exchanged 2 (exchanged 4 (exchanged 8 (exchanged 16 ts))))
