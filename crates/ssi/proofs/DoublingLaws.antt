-- The Gray rule in five steps: the telegram is p xor p / 2, and x xor x / w of x = p xor p / w is p xor p / w², so that 2, 4, 16, 256, 65,536 take the place of the last
-- 2; and p / 2 ^ 32 is 0. One law over the width of a step (`doubled`).
use Rattle.std.specs.Prelude.{◌≡◌, refl, ℕ, zero, suc, ◌+◌, ◌*◌, ◌/◌, ◌%◌, ◌^◌, ◌≤◌, ◌<◌}
use Rattle.std.proofs.Common.{sym, ap, ap₂, ◌∙◌, subst, le_refl, lt_of_lt_of_le, lt_of_le_of_lt, mod-lt, div-le_self, arith, pow_pos, pow_mono, pow-add}
use Rattle.std.proofs.Math.Nat.{div-div-eq-div-mul, div-eq_of_lt}
use Rattle.std.proofs.Math.Arith.{digits_div, digits_mod, lt-one}
use Rattle.std.specs.Int.Bits.{bit_xor, differ, xor_step, xor_zero_r}
use Rattle.std.proofs.lemmas.Nat.{xor_shr}
use Rattle.ssi.proofs.GrayLaws.{gray_counted, counted-lt, code-counted, decoded-counted, half_lt, small-sum, two_pos}
use Rattle.ssi.specs.Telegram.{gray_decoded}

-- one step: x xor x / 2 ^ w
abbrev pub shifted : ℕ → ℕ → ℕ
shifted w x = bit_xor x (x / 2 ^ w)

-- ---- (a xor b) xor (b xor c) is a xor c

digit-sum : (x y : ℕ) → x < 2 → y < 2 → differ x y ≡ (x + y) % 2
digit-sum x y h k = sym (small-sum x y h k)

digit_lt : (x y : ℕ) → x < 2 → y < 2 → differ x y < 2
digit_lt x y h k = subst (λ (d : ℕ). d < 2) (small-sum x y h k) (mod-lt (x + y) two_pos)

sum-cancel : (x y z : ℕ) → ((x + y) % 2 + (y + z) % 2) % 2 ≡ (x + z) % 2
sum-cancel x y z = omega arith

digit-cancel : (x y z : ℕ) → x < 2 → y < 2 → z < 2 → differ (differ x y) (differ y z) ≡ differ x z
digit-cancel x y z h k l =
    digit-sum (differ x y) (differ y z) (digit_lt x y h k) (digit_lt y z k l)
    ∙ ap₂ (λ (m n : ℕ). (m + n) % 2) (digit-sum x y h k) (digit-sum y z k l)
    ∙ sum-cancel x y z
    ∙ sym (digit-sum x z h l)

module _ (a b : ℕ) where
  digit : differ (a % 2) (b % 2) < 2
  digit = digit_lt (a % 2) (b % 2) (mod-lt a two_pos) (mod-lt b two_pos)

  half-xor : bit_xor a b / 2 ≡ bit_xor (a / 2) (b / 2)
  half-xor = ap (λ (x : ℕ). x / 2) (xor_step a b) ∙ digits_div (bit_xor (a / 2) (b / 2)) digit

  odd-xor : bit_xor a b % 2 ≡ differ (a % 2) (b % 2)
  odd-xor = ap (λ (x : ℕ). x % 2) (xor_step a b) ∙ digits_mod (bit_xor (a / 2) (b / 2)) digit

pub cancel : (k a b c : ℕ) → a < 2 ^ k → b < 2 ^ k → c < 2 ^ k → bit_xor (bit_xor a b) (bit_xor b c) ≡ bit_xor a c
cancel zero a b c h k l = rw (lt-one h, lt-one k, lt-one l) refl
cancel (suc n) a b c h k l =
    xor_step (bit_xor a b) (bit_xor b c)
    ∙ ap₂ (λ (x y : ℕ). x * 2 + y)
    (ap₂ bit_xor (half-xor a b) (half-xor b c) ∙ cancel n (a / 2) (b / 2) (c / 2) (half_lt n a h) (half_lt n b k) (half_lt n c l))
    (ap₂ differ (odd-xor a b) (odd-xor b c) ∙ digit-cancel (a % 2) (b % 2) (c % 2) (mod-lt a two_pos) (mod-lt b two_pos) (mod-lt c two_pos))
    ∙ sym (xor_step a c)

-- ---- a step doubles its width

quotient-lt : (p w : ℕ) → p < 2 ^ 32 → p / 2 ^ w < 2 ^ 32
quotient-lt p w h = lt_of_le_of_lt (div-le_self p (2 ^ w)) h

pub doubled : (w p : ℕ) → p < 2 ^ 32 → shifted w (shifted w p) ≡ shifted (w + w) p
doubled w p h =
    let q = p / 2 ^ w in
    ap (bit_xor (bit_xor p q)) (xor_shr p q w)
    ∙ cancel 32 p q (q / 2 ^ w) h (quotient-lt p w h) (quotient-lt q w (quotient-lt p w h))
    ∙ ap (bit_xor p) (div-div-eq-div-mul p (2 ^ w) (2 ^ w) ∙ ap (λ (x : ℕ). p / x) (sym (pow-add 2 w w)))

-- the telegram of p, and behind five steps p again
pub five-steps : (p : ℕ) → p < 2 ^ 32 → shifted 16 (shifted 8 (shifted 4 (shifted 2 (shifted 1 (shifted 1 p))))) ≡ p
five-steps p h =
    ap (λ (x : ℕ). shifted 16 (shifted 8 (shifted 4 (shifted 2 x)))) (doubled 1 p h)
    ∙ ap (λ (x : ℕ). shifted 16 (shifted 8 (shifted 4 x))) (doubled 2 p h)
    ∙ ap (λ (x : ℕ). shifted 16 (shifted 8 x)) (doubled 4 p h)
    ∙ ap (shifted 16) (doubled 8 p h)
    ∙ doubled 16 p h
    ∙ ap (bit_xor p) (div-eq_of_lt h)
    ∙ xor_zero_r p

-- THE RULE IN FIVE STEPS: of the N low bits of a telegram they give its position
pub decoded-doubled : (N t : ℕ) → N ≤ 32 → shifted 16 (shifted 8 (shifted 4 (shifted 2 (shifted 1 (t % 2 ^ N))))) ≡ gray_decoded N N t
decoded-doubled N t h =
    let own = t % 2 ^ N in
    let p = gray_counted N own in
    ap (λ (x : ℕ). shifted 16 (shifted 8 (shifted 4 (shifted 2 (shifted 1 x))))) (sym (code-counted N own (mod-lt t (pow_pos N))))
    ∙ five-steps p (lt_of_lt_of_le (counted-lt N own) (pow_mono h))
    ∙ sym (decoded-counted N N t (le_refl N))
