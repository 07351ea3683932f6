-- What a telegram says: its bits B to H, decoded where the format is Gray, are its position p.
-- Paper 01, "From telegram to result", first paragraph. Bit 1 is the lowest.
use Rattle.std.specs.Prelude.{Option, Some, None, Bool, false, cond, ◌&&◌, ℕ, zero, suc, ◌+◌, ◌-◌, ◌*◌, ◌/◌, ◌%◌, ◌^◌, ltb, eqb}
use Rattle.std.specs.Int.Count.{ones_in}
use Rattle.ssi.specs.declared.Layout.{Layout}
use Rattle.ssi.specs.declared.Content.{Content}
use Rattle.ssi.specs.declared.Refusal.{Refusal}
use Rattle.ssi.specs.declared.Refusal.TheVariants.{BitAbove, PositionAbove, NoErrorBit}
use Rattle.ssi.specs.declared.Diagnosis.{Diagnosis}
use Rattle.ssi.specs.Sound.{error_bit, error_level}

-- Where each check sits: the number of each refusal
abbrev pub refusal_number : Refusal → ℕ
refusal_number BitAbove = 11
refusal_number PositionAbove = 17
refusal_number NoErrorBit = 18

-- 0 where there is none
abbrev pub number_told : Option Refusal → ℕ
number_told None = 0
number_told (Some r) = refusal_number r

-- Where each check sits, 11: a telegram is accepted when no bit above N is set
unfoldable pub accepted : Layout → ℕ → Bool
accepted l t = ltb t (2 ^ l.resolution)

-- the level of bit n, and 0 where n is 0, which is no bit
abbrev pub level_of : ℕ → ℕ → ℕ
level_of zero t = 0
level_of (suc k) t = t / 2 ^ k % 2

-- what bit n is worth where it is set
abbrev pub worth : ℕ → ℕ
worth zero = 0
worth (suc k) = 2 ^ k

-- "The level of the error bit is read": whether it is the one that means error. With no error bit it never is
unfoldable pub error_reported : Layout → ℕ → Bool
error_reported l t = ltb 0 (error_bit l) && eqb (level_of (error_bit l) t) (error_level l)

-- "then the bit is taken as 0"
abbrev pub without_bit : ℕ → ℕ → ℕ
without_bit n t = t - level_of n t * worth n

-- the ones of t at bit k + 1 and above, up to bit N
abbrev pub ones_above : ℕ → ℕ → ℕ → ℕ
ones_above N k t = ones_in (N - k) (t / 2 ^ k)

-- "Gray: a bit of the position is 1 when an odd number of ones stands at it and above, up to bit N".
-- The n low bits of the position; GrayLaws, `decoded-xor`, has the same by exclusive or
unfoldable pub gray_decoded : ℕ → ℕ → ℕ → ℕ
unfolding ones_in
gray_decoded N zero t = 0
gray_decoded N (suc k) t = ones_above N k t % 2 * 2 ^ k + gray_decoded N k t

-- "Binary: bits are used as they come": by format, 0 Gray, else binary
abbrev pub decoded : ℕ → ℕ → ℕ → ℕ
decoded zero N t = gray_decoded N N t
decoded (suc f) N t = t

-- "M is 2 to the power H − B + 1": how many positions there are
abbrev pub width_of : Layout → ℕ
width_of l = l.high - l.low + 1

abbrev pub modulus : Layout → ℕ
modulus l = 2 ^ width_of l

-- "Then bits B to H give the position p": of any telegram, since bits above N do not count
unfoldable pub position_of : Layout → ℕ → ℕ
position_of l t = decoded l.format l.resolution (without_bit (error_bit l) t) / 2 ^ (l.low - 1) % modulus l

-- a telegram read; with 11 there is no position and no error
unfoldable pub content_of : Layout → ℕ → Content
content_of l t =
    cond (accepted l t)
    (record { refusal = None; position = position_of l t; error = error_reported l t })
    (record { refusal = Some BitAbove; position = 0; error = false })

-- the diagnosis: p split by 2 to the power "bits per turn" into turns and place within the turn, 0 and 0 with 11
unfoldable pub diagnosis_of : Layout → ℕ → ℕ → Diagnosis
diagnosis_of l bits t =
    cond (accepted l t)
    (record { refusal = None; turns = position_of l t / 2 ^ bits; place = position_of l t % 2 ^ bits })
    (record { refusal = Some BitAbove; turns = 0; place = 0 })
