-- Bits high..low are the word shifted down by low, and the high - low + 1 lowest bits of that, kept by a mask.
use mathlib.Core.Path.{◌≡◌, ap, ◌∙◌}
use Prim.Native.Nat.{ℕ, ◌+◌, ◌-◌, ◌/◌, ◌^◌, ◌≤◌}
use native.Mathlib.Omega.{arith}
use lib.Bits.{bit_and, and_mask}
use lib.Pow.{high, ones_lt, ones_split}
use Rattle.events.specs.Words.{bits_of}

-- all ones, shifted down until k of them are left
mask_is : (k d : ℕ) → 32 ≡ k + d → (2 ^ 32 - 1) / 2 ^ d ≡ 2 ^ k - 1
mask_is k d e = ap (λ (x : ℕ). (2 ^ x - 1) / 2 ^ d) e ∙ ap (λ (x : ℕ). x / 2 ^ d) (ones_split k d) ∙ high (2 ^ k - 1) d (ones_lt d)

pub bits_are : (w upper lower : ℕ) → lower ≤ upper → upper ≤ 31
    → bit_and (w / 2 ^ lower) ((2 ^ 32 - 1) / 2 ^ (31 - (upper - lower))) ≡ bits_of upper lower w
bits_are w upper lower h l =
    ap (bit_and (w / 2 ^ lower)) (mask_is (upper + 1 - lower) (31 - (upper - lower)) (omega arith)) ∙ and_mask (w / 2 ^ lower) (upper + 1 - lower)
