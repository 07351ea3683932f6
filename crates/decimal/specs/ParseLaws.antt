-- What a text is read as, by what its bytes pass: one law for each way through the reading.
use Rattle.std.specs.Prelude.{ℕ, zero, suc, ◌≤◌, ◌<◌, ◌≡◌, true, false, List, ◌∷◌, ℤ, pos, negsuc, ◌-ℤ◌, Option, Some, None, length}
use Rattle.std.proofs.Common.{sym, ap, ◌∙◌, arith}
use Rattle.std.proofs.lemmas.Bool.{false≢true}
use Rattle.integers.specs.Int.{Within}
use Rattle.integers.specs.IntLaws.{eq_of, sub_is}
use Rattle.decimal.specs.Decimal.{largest, minus, digits_of, text_of, value_from, parsed_of}
use Rattle.decimal.specs.ByteSteps.{is_natural}
use Rattle.decimal.specs.DigitLaws.{digits-all, value-digits}
use Rattle.decimal.specs.ByteLaws.{digits-pass, pass-digits, pass-range}
use Rattle.decimal.specs.DecimalLaws.{text-not-empty, digits-no-minus, written-is-read, others-malformed}

pub empty-malformed : (s : List ℕ) → length s ≡ 0 → parsed_of s ≡ None
empty-malformed s l = others-malformed s (λ z h e. omega (arith, text-not-empty z, ap length e))

pub natural-read : (s : List ℕ) → is_natural s ≡ true → parsed_of s ≡ Some (pos (value_from 0 s))
unfolding text_of
natural-read s e =
    ap parsed_of (sym (pass-digits s e))
    ∙ written-is-read (pos (value_from 0 s)) (record { above = pass-range s e; below = omega arith })

-- a text that does not pass is no number's digits
not-digits : (s : List ℕ) (n : ℕ) → is_natural s ≡ false → n ≤ largest → s ≡ digits_of n → ⊥
not-digits s n e h q = false≢true (sym e ∙ ap is_natural q ∙ digits-pass n h)

pub natural-malformed : (s : List ℕ) → is_natural s ≡ false → ((t : List ℕ) → s ≡ minus ∷ t → ⊥) → parsed_of s ≡ None
unfolding text_of
natural-malformed s e none = others-malformed s no
  where
    no : (z : ℤ) → Within largest z → s ≡ text_of z → ⊥
    no (pos n) h q = not-digits s n e h.above q
    no (negsuc n) h q = none (digits_of (suc n)) q

-- the digits after a minus sign
after_minus : (s t : List ℕ) → minus ∷ s ≡ minus ∷ t → s ≡ t
after_minus s t e = cc

pub negative-malformed : (s : List ℕ) → is_natural s ≡ false → parsed_of (minus ∷ s) ≡ None
unfolding text_of
negative-malformed s e = others-malformed (minus ∷ s) no
  where
    no : (z : ℤ) → Within largest z → minus ∷ s ≡ text_of z → ⊥
    no (pos n) h q = digits-no-minus (digits_of n) s (digits-all n h.above) (sym q)
    no (negsuc n) h q = not-digits s (suc n) e h.below (after_minus s (digits_of (suc n)) q)

pub minus-zero-malformed : (s : List ℕ) → value_from 0 s ≡ 0 → parsed_of (minus ∷ s) ≡ None
unfolding text_of
minus-zero-malformed s v = others-malformed (minus ∷ s) no
  where
    no : (z : ℤ) → Within largest z → minus ∷ s ≡ text_of z → ⊥
    no (pos n) h q = digits-no-minus (digits_of n) s (digits-all n h.above) (sym q)
    no (negsuc n) h q = omega (arith, v, ap (value_from 0) (after_minus s (digits_of (suc n)) q), value-digits (suc n) h.below)

pub negative-read : (s : List ℕ) (n : ℕ) → is_natural s ≡ true → value_from 0 s ≡ n → 0 < n → parsed_of (minus ∷ s) ≡ Some (pos 0 -ℤ pos n)
unfolding text_of
negative-read s zero e v p = absurd (omega arith)
negative-read s (suc n) e v p =
    let d : digits_of (suc n) ≡ s = ap digits_of (sym v) ∙ pass-digits s e in
    ap (λ (t : List ℕ). parsed_of (minus ∷ t)) (sym d)
    ∙ written-is-read (negsuc n) (record { above = omega arith; below = omega (arith, pass-range s e) })
    ∙ ap {A = ℤ} {B = Option ℤ} Some (eq_of (negsuc n) (pos 0 -ℤ pos (suc n)) (omega (arith, sub_is (pos 0) (pos (suc n)))))
