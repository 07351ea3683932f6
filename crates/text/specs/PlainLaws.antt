-- Words parted by one space are found again, also where a carriage return would be taken off; and numbers are plain words.
use Rattle.std.specs.Prelude.{◌≡◌, refl, true, List, [], ◌∷◌, ◌++◌, ℕ, suc, ◌-◌, ◌<◌, ltb, ℤ, pos, negsuc, length, get_or}
use Rattle.std.proofs.Common.{ap, ◌∙◌, arith, ltb-true, lt-ltb, ne_eqb}
use Rattle.integers.specs.Int.{Within}
use Rattle.decimal.specs.Decimal.{largest, text_of, digits_of}
use Rattle.decimal.specs.ByteSteps.{all_digits}
use Rattle.decimal.specs.DigitLaws.{both_true, digits-all, digits-some, digit-from, all_head, all_tail}
use Rattle.text.specs.Marks.{space, carriage_return}
use Rattle.text.specs.Words.{parts_of, filled, words_of, trimmed_of}
use Rattle.text.specs.Plain.{all_plain, Plain, Words, last, more, spoken}

-- ---- the words of words
filled-word : (w : List ℕ) (ps : List (List ℕ)) → 0 < length w → filled (w ∷ ps) ≡ w ∷ filled ps
filled-word [] ps h = absurd (omega arith)
filled-word (b ∷ w) ps h = refl

plain_byte : (b : ℕ) (s : List ℕ) → all_plain (b ∷ s) ≡ true → space < b
unfolding all_plain
plain_byte b s e = ltb-true space b (both_true (ltb space b) (all_plain s) e).0

plain-rest : (b : ℕ) (s : List ℕ) → all_plain (b ∷ s) ≡ true → all_plain s ≡ true
unfolding all_plain
plain-rest b s e = (both_true (ltb space b) (all_plain s) e).1

parts-alone : (w : List ℕ) → all_plain w ≡ true → parts_of w ≡ w ∷ []
unfolding parts_of
parts-alone [] e = refl
parts-alone (b ∷ w) e = rw (ne_eqb b space (λ q. omega (arith, plain_byte b w e)), parts-alone w (plain-rest b w e))

parts-word : (w s : List ℕ) → all_plain w ≡ true → parts_of (w ++ (space ∷ s)) ≡ w ∷ parts_of s
unfolding parts_of
parts-word [] s e = refl
parts-word (b ∷ w) s e = rw (ne_eqb b space (λ q. omega (arith, plain_byte b w e)), parts-word w s (plain-rest b w e))

-- WORDS PARTED BY ONE SPACE ARE FOUND AGAIN
pub words_back : (ws : List (List ℕ)) → Words ws → words_of (spoken ws) ≡ ws
unfolding words_of spoken
words_back [] x = elim x [ ]
words_back (w ∷ []) (last p) = ap filled (parts-alone w p.all) ∙ filled-word w [] p.some
words_back (w ∷ (v ∷ ws)) (more p r) =
    ap filled (parts-word w (spoken (v ∷ ws)) p.all) ∙ filled-word w (parts_of (spoken (v ∷ ws))) p.some ∙ ap (λ (l : List (List ℕ)). w ∷ l) (words_back (v ∷ ws) r)

-- ---- the last byte
-- the last byte is no carriage return
record Ends (s : List ℕ) : Type 0 where
  some : 0 < length s
  high : space < get_or s (length s - 1) 0

ends-cons : (b : ℕ) (s : List ℕ) → Ends s → Ends (b ∷ s)
ends-cons b [] e = absurd (omega (arith, e.some))
ends-cons b (a ∷ s) e =
    let n : suc (suc (length s)) - 1 ≡ suc (suc (length s) - 1) = omega arith in
    record { some = omega arith; high = rw n e.high }

ends-append : (w s : List ℕ) → Ends s → Ends (w ++ s)
ends-append [] s e = e
ends-append (b ∷ w) s e = ends-cons b (w ++ s) (ends-append w s e)

ends-word : (w : List ℕ) → Plain w → Ends w
ends-word [] p = absurd (omega (arith, p.some))
ends-word (b ∷ []) p = record { some = omega arith; high = plain_byte b [] p.all }
ends-word (b ∷ (a ∷ w)) p = ends-cons b (a ∷ w) (ends-word (a ∷ w) (record { some = omega arith; all = plain-rest b (a ∷ w) p.all }))

ends-spoken : (ws : List (List ℕ)) → Words ws → Ends (spoken ws)
unfolding spoken
ends-spoken [] x = elim x [ ]
ends-spoken (w ∷ []) (last p) = ends-word w p
ends-spoken (w ∷ (v ∷ ws)) (more p r) = ends-append w (space ∷ spoken (v ∷ ws)) (ends-cons space (spoken (v ∷ ws)) (ends-spoken (v ∷ ws) r))

trimmed-ends : (s : List ℕ) → Ends s → trimmed_of s ≡ s
unfolding trimmed_of
trimmed-ends s e = rw (ne_eqb (get_or s (length s - 1) 0) carriage_return (λ q. omega (arith, e.high)))

-- no carriage return is taken off
pub trimmed-same : (ws : List (List ℕ)) → Words ws → trimmed_of (spoken ws) ≡ spoken ws
trimmed-same ws r = trimmed-ends (spoken ws) (ends-spoken ws r)

-- ---- numbers as words
digits-plain : (s : List ℕ) → all_digits s ≡ true → all_plain s ≡ true
unfolding all_plain
digits-plain [] e = refl
digits-plain (b ∷ s) e = rw (lt-ltb space b (omega (arith, digit-from b (all_head b s e))), digits-plain s (all_tail b s e))

pub text-plain : (z : ℤ) → Within largest z → Plain (text_of z)
unfolding text_of all_plain
text-plain (pos n) h = record { some = omega (arith, digits-some n); all = digits-plain (digits_of n) (digits-all n h.above) }
text-plain (negsuc n) h = record { some = omega arith; all = digits-plain (digits_of (suc n)) (digits-all (suc n) h.below) }
