-- The telegram of a position: it holds the position in bits B to H, its error where one is asked for, and nothing else.
-- Paper 01, "Where each check sits", builder, and the paragraph below the table.
use Rattle.std.specs.Prelude.{Some, None, ◌≡◌, Bool, cond, ◌&&◌, ◌⊎◌, ℕ, zero, suc, ◌+◌, ◌-◌, ◌*◌, ◌/◌, ◌^◌, ◌≤◌, ◌<◌, leb, eqb}
use Rattle.std.specs.Int.Bits.{bit_xor}
use Rattle.ssi.specs.declared.Layout.{Layout}
use Rattle.ssi.specs.declared.Built.{Built}
use Rattle.ssi.specs.declared.Refusal.{Refusal}
use Rattle.ssi.specs.declared.Refusal.TheVariants.{PositionAbove, NoErrorBit}
use Rattle.ssi.specs.Sound.{error_bit, error_level}
use Rattle.ssi.specs.Telegram.{modulus, worth, level_of}

-- the Gray code of p: each bit with the one above it
abbrev pub gray_code : ℕ → ℕ
gray_code p = bit_xor p (p / 2)

-- the position as the telegram carries it: by format, 0 Gray, else binary
abbrev pub coded : ℕ → ℕ → ℕ
coded zero p = gray_code p
coded (suc f) p = p

-- "the error bit stands at its error level exactly when the error is asked for": its level
abbrev pub level_asked : Layout → Bool → ℕ
level_asked l asked = cond asked (error_level l) (1 - error_level l)

-- the position in bits B to H, the error bit if one is set up, and 0 in all other bits
unfoldable pub telegram_of : Layout → ℕ → Bool → ℕ
telegram_of l p asked = coded l.format p * 2 ^ (l.low - 1) + level_asked l asked * worth (error_bit l)

-- "telegram 0 with its refusal"
abbrev pub refused : Refusal → Built
refused r = record { refusal = Some r; telegram = 0 }

-- 17: position ≥ M; then 18: error asked for, no error bit set up
unfoldable pub built_of : Layout → ℕ → Bool → Built
built_of l p asked =
    cond (leb (modulus l) p) (refused PositionAbove) (cond (asked && eqb (error_bit l) 0) (refused NoErrorBit) (record { refusal = None; telegram = telegram_of l p asked }))

-- "the telegram's own bits outside B to H are 0 (these are the blanked bits, in Gray format too), except .. the error bit"
abbrev pub BlankZero : Layout → ℕ → Type 0
BlankZero l t = (n : ℕ) → 1 ≤ n → n ≤ l.resolution → (n < l.low) ⊎ (l.high < n) → (n ≡ error_bit l → ⊥) → level_of n t ≡ 0
