-- Laws of texts judged byte by byte: what passes as a natural number is the digits of the number that it stands for, and no other text is the digits of one.
use Rattle.std.specs.Prelude.{ℕ, zero, suc, ◌+◌, ◌-◌, ◌*◌, ◌^◌, ◌≤◌, ◌≡◌, refl, Bool, true, false, cond, List, [], ◌∷◌, ltb, eqb, length, get_or}
use Rattle.std.proofs.Common.{ap, ◌∙◌, arith, lit<, ltb-false, le-ltb, eqb-true, eq-eqb, ne_eqb}
use Rattle.std.proofs.lemmas.Bool.{false≢true, eqb-false}
use Rattle.std.proofs.Math.Nat.{pow-le-pow_right}
use Rattle.decimal.specs.Decimal.{largest, digits_of, value_from}
use Rattle.decimal.specs.ByteSteps.{is_digit, all_digits, is_natural}
use Rattle.decimal.specs.DigitLaws.{digits-some, digits-small, digits-few, digits-all, digits-lead, digits_value, value-below, all_head, all_tail, digit-from, digit-to}

-- what a text that passes is
pub record Natural (s : List ℕ) : Type 0 where
  pub some : 1 ≤ length s
  pub few : length s ≤ 18
  pub all : all_digits s ≡ true
  pub lead : get_or s 0 0 ≡ 48 → length s ≡ 1

lone-zero : (s : List ℕ) → get_or s 0 0 ≡ 48 → length s ≡ 1 → all_digits s ≡ true
unfolding all_digits
lone-zero [] h l = absurd (omega arith)
lone-zero (b ∷ []) h l = rw h
lone-zero (b ∷ c ∷ s) h l = absurd (omega arith)

pub natural-parts : (s : List ℕ) → is_natural s ≡ true → Natural s
unfolding is_natural
natural-parts s e = by_length (eqb (length s) 0) refl e
  where
    by-lead : (t : Bool) → eqb (get_or s 0 0) 48 ≡ t → 1 ≤ length s → length s ≤ 18 → cond t (eqb (length s) 1) (all_digits s) ≡ true → Natural s
    by-lead true f l m e =
        let z = eqb-true (length s) 1 e in
        record { some = l; few = m; all = lone-zero s (eqb-true (get_or s 0 0) 48 f) z; lead = λ _. z }
    by-lead false f l m e = record { some = l; few = m; all = e; lead = λ h. absurd (eqb-false (get_or s 0 0) 48 f h) }

    by-few : (t : Bool) → ltb 18 (length s) ≡ t → 1 ≤ length s → cond t false (cond (eqb (get_or s 0 0) 48) (eqb (length s) 1) (all_digits s)) ≡ true → Natural s
    by-few true f l e = absurd (false≢true e)
    by-few false f l e = by-lead (eqb (get_or s 0 0) 48) refl l (ltb-false 18 (length s) f) e

    by_length : (t : Bool) → eqb (length s) 0 ≡ t → cond t false (cond (ltb 18 (length s)) false (cond (eqb (get_or s 0 0) 48) (eqb (length s) 1) (all_digits s))) ≡ true → Natural s
    by_length true f e = absurd (false≢true e)
    by_length false f e =
        let n = eqb-false (length s) 0 f in
        by-few (ltb 18 (length s)) refl (omega arith) e

-- what a text with these parts is: it passes
pub natural-is : (s : List ℕ) → Natural s → is_natural s ≡ true
unfolding is_natural
natural-is s n =
    rw (ne_eqb (length s) 0 (λ e. omega (arith, n.some)), le-ltb 18 (length s) n.few)
    (tested (eqb (get_or s 0 0) 48) refl)
  where
    tested : (t : Bool) → eqb (get_or s 0 0) 48 ≡ t → cond t (eqb (length s) 1) (all_digits s) ≡ true
    tested true e = eq-eqb (length s) 1 (n.lead (eqb-true (get_or s 0 0) 48 e))
    tested false e = n.all

-- ---- the digits of a number pass
digits-natural : (n : ℕ) → n ≤ largest → Natural (digits_of n)
digits-natural n h =
    record {
      some = digits-some n;
      few = digits-few n;
      all = digits-all n h;
      lead = led n h;
    }
  where
    led : (n : ℕ) → n ≤ largest → get_or (digits_of n) 0 0 ≡ 48 → length (digits_of n) ≡ 1
    led zero h e = rw (digits-small 0 (lit< tt))
    led (suc n) h e = absurd (omega (arith, digits-lead (suc n) h (omega arith)))

pub digits-pass : (n : ℕ) → n ≤ largest → is_natural (digits_of n) ≡ true
digits-pass n h = natural-is (digits_of n) (digits-natural n h)

-- ---- what passes is the digits of what it stands for, which is in range
pub pass-range : (s : List ℕ) → is_natural s ≡ true → value_from 0 s ≤ largest
pass-range s e =
    let n = natural-parts s e in
    let p : 10 ^ length s ≤ 10 ^ 18 = pow-le-pow_right (omega arith) n.few in
    omega (arith, value-below 0 s n.all)

lead-digits : (s : List ℕ) → Natural s → value_from 0 s ≤ largest → digits_of (value_from 0 s) ≡ s
unfolding value_from all_digits
lead-digits [] n i = absurd (omega (arith, n.some))
lead-digits (b ∷ s) n i = tested (eqb b 48) refl s n.lead (all_tail b s n.all) i
  where
    d : is_digit b ≡ true
    d = all_head b s n.all

    tested : (t : Bool) → eqb b 48 ≡ t → (s : List ℕ) → (b ≡ 48 → suc (length s) ≡ 1) → all_digits s ≡ true → value_from (0 * 10 + (b - 48)) s ≤ largest → digits_of (value_from (0 * 10 + (b - 48)) s) ≡ b ∷ s
    tested true e [] l a i =
        let z = eqb-true b 48 e in
        rw (digits-small (0 * 10 + (b - 48)) (omega arith)) (ap (λ (x : ℕ). x ∷ []) (omega arith))
    tested true e (c ∷ s) l a i = absurd (omega (arith, l (eqb-true b 48 e)))
    tested false e s l a i =
        let z = eqb-false b 48 e in
        let f = digit-from b d in
        let g = digit-to b d in
        digits_value (0 * 10 + (b - 48)) s (omega arith) i a
        ∙ rw (digits-small (0 * 10 + (b - 48)) (omega arith)) (ap (λ (x : ℕ). x ∷ s) (omega arith))

pub pass-digits : (s : List ℕ) → is_natural s ≡ true → digits_of (value_from 0 s) ≡ s
pass-digits s e = lead-digits s (natural-parts s e) (pass-range s e)
