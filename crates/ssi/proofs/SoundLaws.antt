-- A sound layout in numbers: its field lies in its telegram, and its positions are below M, which is at most 2 to the power 32.
use Rattle.std.specs.Prelude.{◌⊎◌, ℕ, ◌+◌, ◌-◌, ◌^◌, ◌≤◌, ◌<◌}
use Rattle.std.proofs.Common.{inl, inr, mod-lt, arith, pow_pos, pow_mono}
use Rattle.ssi.specs.declared.Layout.{Layout}
use Rattle.ssi.specs.Sound.{Sound}
use Rattle.ssi.specs.Telegram.{modulus, position_of}
use Rattle.ssi.proofs.PartLaws.{Outside}

-- the field's first bit and width add up to H
pub field_fits : (l : Layout) → Sound l → (l.high - l.low + 1) + (l.low - 1) ≤ l.resolution
field_fits l s = omega (arith, s.from_one, s.low-high, s.high-resolution)

pub outside-field : (l : Layout) → Sound l → (n : ℕ) → (n < l.low) ⊎ (l.high < n) → Outside n (l.low - 1) (l.high - l.low + 1)
outside-field l s n (inl h) = inl (omega (arith, h))
outside-field l s n (inr h) = inr (omega (arith, h, s.from_one, s.low-high))

pub modulus-max : (l : Layout) → Sound l → modulus l ≤ 2 ^ 32
modulus-max l s = pow_mono {i = l.high - l.low + 1} {j = 32} (omega (arith, s.from_one, s.low-high, s.high-resolution, s.to-32))

pub position-lt : (l : Layout) (t : ℕ) → position_of l t < modulus l
unfolding position_of
position-lt l t = mod-lt _ (pow_pos (l.high - l.low + 1))
