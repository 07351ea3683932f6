-- The bits of a signed word are 32 bits, and a signed word and its bits give each other back, words below 0 too. Assumes nothing.
use Rattle.std.specs.Prelude.{◌≡◌, refl, true, false, cond, ℕ, suc, ◌-◌, ◌^◌, ◌≤◌, ◌<◌, ltb, ℤ, pos, negsuc, nat_abs, ◌+ℤ◌, ◌-ℤ◌}
use Rattle.std.proofs.Common.{sym, ◌∙◌, arith, lt-ltb, le-ltb}
use Rattle.std.proofs.Math.Decide.{dec_le}
use Rattle.std.proofs.Math.Dec.{leb-zero}
use Rattle.std.specs.Int.Signed.{mag, le_z}
use Rattle.integers.specs.ChoiceLaws.{true-is, false-is}
use Rattle.integers.specs.IntLaws.{add_is, sub_is, excl, eq_of, ints}
use Rattle.integers.specs.TwosComplement.{signed_of, bits_of}

-- ---- read back
-- the bits of a signed word of 32 bits are 32 bits, and give the word
pub bits-lt : (z : ℤ) → mag z < 2 ^ 31 → bits_of z < 2 ^ 32
unfolding bits_of
bits-lt (pos n) h = omega arith
bits-lt (negsuc n) h = omega arith

pub signed-bits : (z : ℤ) → mag z < 2 ^ 31 → signed_of (bits_of z) ≡ z
unfolding signed_of bits_of
signed-bits (pos n) h = rw (lt-ltb n (2 ^ 31) h)
signed-bits (negsuc n) h =
    rw (le-ltb (2 ^ 32 - suc n) (2 ^ 31) (omega arith))
    (let z = pos (2 ^ 32 - suc n) -ℤ pos (2 ^ 32) in
    eq_of z (negsuc n) (omega (arith, sub_is (pos (2 ^ 32 - suc n)) (pos (2 ^ 32)), excl z)))

-- 32 bits taken as a signed word have these bits
minus-bits : (w : ℕ) (z : ℤ) → z ≡ pos w -ℤ pos (2 ^ 32) → w < 2 ^ 32 → bits_of z ≡ w
unfolding bits_of
minus-bits w (pos n) e h = absurd (omega (arith, ints, sub_is (pos w) (pos (2 ^ 32))))
minus-bits w (negsuc n) e h = omega (arith, ints, sub_is (pos w) (pos (2 ^ 32)))

pub bits-signed : (w : ℕ) → w < 2 ^ 32 → bits_of (signed_of w) ≡ w
unfolding signed_of bits_of
bits-signed w h = go (dec_le (2 ^ 31) w)
  where
    go : Dec (2 ^ 31 ≤ w) → bits_of (cond (ltb w (2 ^ 31)) (pos w) (pos w -ℤ pos (2 ^ 32))) ≡ w
    go (yes l) = rw (le-ltb w (2 ^ 31) l) (minus-bits w (pos w -ℤ pos (2 ^ 32)) refl h)
    go (no n) = rw (lt-ltb w (2 ^ 31) (omega (arith, n)))

-- ---- by the sign: a word from 0 on is its own bits, another one 2 ^ 32 more
pub bits-from-zero : (z : ℤ) → le_z (pos 0) z ≡ true → nat_abs z ≡ bits_of z
unfolding bits_of
bits-from-zero (pos n) e = refl
bits-from-zero (negsuc n) e = absurd (true-is _ e)

pub bits-below-zero : (z : ℤ) → le_z (pos 0) z ≡ false → mag z < 2 ^ 31 → pos (bits_of z) ≡ z +ℤ pos (2 ^ 32)
unfolding bits_of
bits-below-zero (pos n) e h = absurd (false-is _ (sym (leb-zero n) ∙ e))
bits-below-zero (negsuc n) e h =
    let s = negsuc n +ℤ pos (2 ^ 32) in
    eq_of (pos (2 ^ 32 - suc n)) s (omega (arith, add_is (negsuc n) (pos (2 ^ 32)), excl s))
