-- What is written is read, and what is read was written: the laws of a number's text.
use Rattle.std.specs.Prelude.{ℕ, suc, ◌≤◌, ◌<◌, ◌≡◌, refl, Bool, true, false, cond, ◌&&◌, List, [], ◌∷◌, leb, eqb, ℤ, pos, negsuc, neg_ℤ, nat_abs, Option, Some, None, length}
use Rattle.std.proofs.Common.{sym, ap, ◌∙◌, arith, leb-true, le-leb, eqb-true, eq-eqb, ne_eqb}
use Rattle.std.proofs.lemmas.Bool.{false≢true}
use Rattle.integers.specs.Int.{P, N, Within}
use Rattle.integers.specs.IntLaws.{excl, abs_is}
use Rattle.decimal.specs.Decimal.{largest, minus, digits_of, text_of, value_from, number_in, same_text, parsed_of}
use Rattle.decimal.specs.ByteSteps.{all_digits}
use Rattle.decimal.specs.DigitLaws.{digits-some, digits-few, digits-all, value-digits, all_head, digit-from, both_true, and-true}

-- ---- a text's length

pub text-not-empty : (z : ℤ) → 1 ≤ length (text_of z)
unfolding text_of
text-not-empty (pos n) = digits-some n
text-not-empty (negsuc n) = omega (arith, digits-some (suc n))

pub text-at-most-19 : (z : ℤ) → length (text_of z) ≤ 19
unfolding text_of
text-at-most-19 (pos n) = omega (arith, digits-few n)
text-at-most-19 (negsuc n) = omega (arith, digits-few (suc n))

-- ---- a text by the number's parts

pub text-natural : (z : ℤ) (n : ℕ) → n ≡ P z → N z ≡ 0 → text_of z ≡ digits_of n
unfolding text_of
text-natural (pos m) n e h = ap digits_of (sym e)
text-natural (negsuc m) n e h = absurd (omega arith)

pub text-negative : (z : ℤ) (n : ℕ) → n ≡ N z → 0 < N z → text_of z ≡ minus ∷ digits_of n
unfolding text_of
text-negative (pos m) n e h = absurd (omega arith)
text-negative (negsuc m) n e h = ap (λ (k : ℕ). minus ∷ digits_of k) (sym e)

-- ---- a text has one number

-- digits do not begin with a minus sign
pub digits-no-minus : (s t : List ℕ) → all_digits s ≡ true → s ≡ minus ∷ t → ⊥
digits-no-minus [] t e q = let z : ◌≡◌ {A = ℕ} 0 1 = cc in omega arith
digits-no-minus (b ∷ s) t e q = let z : b ≡ 45 = cc in omega (arith, digit-from b (all_head b s e))

number_digits : (s : List ℕ) → all_digits s ≡ true → number_in s ≡ pos (value_from 0 s)
unfolding number_in value_from
number_digits [] e = refl
number_digits (b ∷ s) e = rw (ne_eqb b 45 (λ q. omega (arith, q, digit-from b (all_head b s e))))

number-minus : (s : List ℕ) → number_in (minus ∷ s) ≡ neg_ℤ (pos (value_from 0 s))
unfolding number_in
number-minus s = refl

-- the number in a number's text is that number
pub number-text : (z : ℤ) → Within largest z → number_in (text_of z) ≡ z
unfolding text_of
number-text (pos n) h = number_digits (digits_of n) (digits-all n h.above) ∙ ap pos (value-digits n h.above)
number-text (negsuc n) h = number-minus (digits_of (suc n)) ∙ ap (λ (v : ℕ). neg_ℤ (pos v)) (value-digits (suc n) h.below)

-- two numbers with one text are one number
pub text-only : (a b : ℤ) → Within largest a → Within largest b → text_of a ≡ text_of b → a ≡ b
text-only a b h i e = sym (number-text a h) ∙ ap number_in e ∙ number-text b i

-- ---- written and read

same_refl : (s : List ℕ) → same_text s s ≡ true
unfolding same_text
same_refl [] = refl
same_refl (b ∷ s) = and-true (eqb b b) (same_text s s) (eq-eqb b b refl) (same_refl s)

same_true : (s t : List ℕ) → same_text s t ≡ true → s ≡ t
unfolding same_text
same_true [] [] e = refl
same_true [] (b ∷ t) e = absurd (false≢true e)
same_true (a ∷ s) [] e = absurd (false≢true e)
same_true (a ∷ s) (b ∷ t) e =
    let p = both_true (eqb a b) (same_text s t) e in
    let h = eqb-true a b p.0 in
    let r = same_true s t p.1 in
    cc

within-abs : (z : ℤ) → Within largest z → nat_abs z ≤ largest
within-abs z h = omega (arith, abs_is z, excl z, h.above, h.below)

abs-within : (z : ℤ) → nat_abs z ≤ largest → Within largest z
abs-within z h = record { above = omega (arith, abs_is z); below = omega (arith, abs_is z) }

-- what is written for z is read as z
pub written-is-read : (z : ℤ) → Within largest z → parsed_of (text_of z) ≡ Some z
unfolding parsed_of
written-is-read z h = rw (number-text z h, same_refl (text_of z), le-leb (nat_abs z) largest (within-abs z h))

-- only the text of z is read as z, and z has at most 18 digits
pub read-is-written : (s : List ℕ) (z : ℤ) → parsed_of s ≡ Some z → (s ≡ text_of z) × Within largest z
unfolding parsed_of
read-is-written s z e = tested (same_text s (text_of (number_in s)) && leb (nat_abs (number_in s)) largest) refl e
  where
    tested : (t : Bool) → same_text s (text_of (number_in s)) && leb (nat_abs (number_in s)) largest ≡ t → cond t (Some (number_in s)) None ≡ Some z → (s ≡ text_of z) × Within largest z
    tested true h e =
        let p = both_true (same_text s (text_of (number_in s))) (leb (nat_abs (number_in s)) largest) h in
        let n : number_in s ≡ z = cc in
        (rw n at (same_true s (text_of (number_in s)) p.0), rw n at (abs-within (number_in s) (leb-true (nat_abs (number_in s)) largest p.1)))
    tested false h e = let z : ◌≡◌ {A = ℕ} 0 1 = cc in absurd (omega arith)

-- what is no number's text is malformed
pub others-malformed : (s : List ℕ) → ((z : ℤ) → Within largest z → s ≡ text_of z → ⊥) → parsed_of s ≡ None
others-malformed s none = by-outcome (parsed_of s) refl
  where
    by-outcome : (p : Option ℤ) → parsed_of s ≡ p → p ≡ None
    by-outcome (Some z) e =
        let r = read-is-written s z e in
        absurd (none z r.1 r.0)
    by-outcome None e = refl
