-- Laws of hex digits: how large the number of some digits is, digits of either case, and what is written is read.
use Rattle.std.specs.Prelude.{◌≡◌, refl, Bool, true, false, cond, ◌&&◌, List, [], ◌∷◌, ◌++◌, ℕ, suc, ◌+◌, ◌-◌, ◌*◌, ◌^◌, ◌≤◌, ◌<◌, leb, length, get_or, take, drop, Option, Some, None}
use Rattle.std.specs.Option.{is_some, unwrap_or}
use Rattle.std.proofs.Common.{ap, arith, mul_assoc, mul-le-mul_right, lt_of_lt_of_le, add-one, take-suc, leb-true, le-leb}
use Rattle.std.proofs.Math.Nat.{pow-succ', pow-le-pow_right}
use Rattle.std.proofs.lemmas.Bool.{lt-leb}
use Rattle.decimal.specs.DigitLaws.{both_true}
use Rattle.text.specs.Marks.{space}
use Rattle.text.specs.Hex.{between, hex_digit, all_hex, is_hex, hex_from, hex_of, hex_pair, spaced_pairs, hex_text}

-- ---- a digit by the range of its byte
pub digit_low : (b : ℕ) → b < 48 → hex_digit b ≡ None
unfolding hex_digit
digit_low b h = rw (lt-leb 48 b h, lt-leb 65 b (omega arith), lt-leb 97 b (omega arith))

pub digit-number : (b : ℕ) → 48 ≤ b → b ≤ 57 → hex_digit b ≡ Some (b - 48)
unfolding hex_digit
digit-number b h i = rw (le-leb 48 b h, le-leb b 57 i)

pub digit-between : (b : ℕ) → 57 < b → b < 65 → hex_digit b ≡ None
unfolding hex_digit
digit-between b h i = rw (le-leb 48 b (omega arith), lt-leb b 57 h, lt-leb 65 b i, lt-leb 97 b (omega arith))

pub digit-upper : (b : ℕ) → 65 ≤ b → b ≤ 70 → hex_digit b ≡ Some (b - 55)
unfolding hex_digit
digit-upper b h i = rw (le-leb 48 b (omega arith), lt-leb b 57 (omega arith), le-leb 65 b h, le-leb b 70 i)

pub digit-middle : (b : ℕ) → 70 < b → b < 97 → hex_digit b ≡ None
unfolding hex_digit
digit-middle b h i = rw (le-leb 48 b (omega arith), lt-leb b 57 (omega arith), le-leb 65 b (omega arith), lt-leb b 70 h, lt-leb 97 b i)

pub digit-lower : (b : ℕ) → 97 ≤ b → b ≤ 102 → hex_digit b ≡ Some (b - 87)
unfolding hex_digit
digit-lower b h i = rw (le-leb 48 b (omega arith), lt-leb b 57 (omega arith), le-leb 65 b (omega arith), lt-leb b 70 (omega arith), le-leb 97 b h, le-leb b 102 i)

pub digit-high : (b : ℕ) → 102 < b → hex_digit b ≡ None
unfolding hex_digit
digit-high b h = rw (le-leb 48 b (omega arith), lt-leb b 57 (omega arith), le-leb 65 b (omega arith), lt-leb b 70 (omega arith), le-leb 97 b (omega arith), lt-leb b 102 h)

-- UPPER AND LOWER CASE ARE READ ALIKE: `A` to `F` are 65 to 70, `a` to `f` are 97 to 102
pub cases_alike : (b : ℕ) → 65 ≤ b → b ≤ 70 → hex_digit (b + 32) ≡ hex_digit b
cases_alike b h i = rw (digit-upper b h i, digit-lower (b + 32) (omega arith) (omega arith)) (ap {A = ℕ} {B = Option ℕ} Some (omega arith))

-- every digit is below 16
pub digit-below : (b : ℕ) → is_some (hex_digit b) ≡ true → unwrap_or (hex_digit b) 16 < 16
unfolding hex_digit
digit-below b = first (between 48 57 b) refl
  where
    third : (t : Bool) → between 97 102 b ≡ t → is_some (cond t (Some (b - 87)) None) ≡ true → unwrap_or (cond t (Some (b - 87)) None) 16 < 16
    third true e h = omega (arith, leb-true b 102 (both_true (leb 97 b) (leb b 102) e).1)
    third false e h = absurd (cc h)

    second : (t : Bool) → between 65 70 b ≡ t → is_some (cond t (Some (b - 55)) (cond (between 97 102 b) (Some (b - 87)) None)) ≡ true
        → unwrap_or (cond t (Some (b - 55)) (cond (between 97 102 b) (Some (b - 87)) None)) 16 < 16
    second true e h = omega (arith, leb-true b 70 (both_true (leb 65 b) (leb b 70) e).1)
    second false e h = third (between 97 102 b) refl h

    first : (t : Bool) → between 48 57 b ≡ t → is_some (cond t (Some (b - 48)) (cond (between 65 70 b) (Some (b - 55)) (cond (between 97 102 b) (Some (b - 87)) None))) ≡ true
        → unwrap_or (cond t (Some (b - 48)) (cond (between 65 70 b) (Some (b - 55)) (cond (between 97 102 b) (Some (b - 87)) None))) 16 < 16
    first true e h = omega (arith, leb-true b 57 (both_true (leb 48 b) (leb b 57) e).1)
    first false e h = second (between 65 70 b) refl h

-- and no byte counts more than 16
pub digit-most : (b : ℕ) → unwrap_or (hex_digit b) 16 ≤ 16
digit-most b = by (hex_digit b) (digit-below b)
  where
    by : (d : Option ℕ) → (is_some d ≡ true → unwrap_or d 16 < 16) → unwrap_or d 16 ≤ 16
    by None h = omega arith
    by (Some d) h = omega (arith, h refl)

-- ---- the number of some digits
pub all_head : (b : ℕ) (s : List ℕ) → all_hex (b ∷ s) ≡ true → is_some (hex_digit b) ≡ true
unfolding all_hex
all_head b s e = (both_true (is_some (hex_digit b)) (all_hex s) e).0

pub all_tail : (b : ℕ) (s : List ℕ) → all_hex (b ∷ s) ≡ true → all_hex s ≡ true
unfolding all_hex
all_tail b s e = (both_true (is_some (hex_digit b)) (all_hex s) e).1

pub hex-grows : (v : ℕ) (s : List ℕ) → v ≤ hex_from v s
unfolding hex_from
hex-grows v [] = omega arith
hex-grows v (b ∷ s) = omega (arith, hex-grows (v * 16 + unwrap_or (hex_digit b) 16) s)

-- k digits stand for a number below 16 ^ k
pub hex-below : (v : ℕ) (s : List ℕ) → all_hex s ≡ true → hex_from v s < suc v * 16 ^ length s
unfolding hex_from
hex-below v [] e = omega arith
hex-below v (b ∷ s) e =
    let l = digit-below b (all_head b s e) in
    let m : suc (v * 16 + unwrap_or (hex_digit b) 16) ≤ suc v * 16 = omega arith in
    let r = hex-below (v * 16 + unwrap_or (hex_digit b) 16) s (all_tail b s e) in
    lt_of_lt_of_le r (rw (pow-succ' 16 (length s), ← mul_assoc (suc v) 16 (16 ^ length s)) (mul-le-mul_right (16 ^ length s) m))

-- what a word of hex digits is
pub record Hex (least most : ℕ) (s : List ℕ) : Type 0 where
  pub some : least ≤ length s
  pub few : length s ≤ most
  pub all : all_hex s ≡ true

pub hex-parts : (least most : ℕ) (s : List ℕ) → is_hex least most s ≡ true → Hex least most s
unfolding is_hex
hex-parts least most s e =
    let p = both_true (leb least (length s)) (leb (length s) most && all_hex s) e in
    let q = both_true (leb (length s) most) (all_hex s) p.1 in
    record { some = leb-true least (length s) p.0; few = leb-true (length s) most q.0; all = q.1 }

pub hex-is : (least most : ℕ) (s : List ℕ) → Hex least most s → is_hex least most s ≡ true
unfolding is_hex
hex-is least most s h = rw (le-leb least (length s) h.some, le-leb (length s) most h.few, h.all)

-- a telegram fits 32 bits, a pair fits a byte
pub hex-fits : (k : ℕ) (s : List ℕ) → length s ≤ k → all_hex s ≡ true → hex_of s < 16 ^ k
hex-fits k s l e =
    let p : 16 ^ length s ≤ 16 ^ k = pow-le-pow_right (omega arith) l in
    omega (arith, hex-below 0 s e)

-- ---- bytes written
-- one byte more
pub spaced-more : (l : List ℕ) (b : ℕ) → spaced_pairs (l ++ (b ∷ [])) ≡ spaced_pairs l ++ (space ∷ hex_pair b)
unfolding spaced_pairs
spaced-more [] b = refl
spaced-more (a ∷ l) b = ap (λ (t : List ℕ). space ∷ (hex_pair a ++ t)) (spaced-more l b)

pub spaced-next : (l : List ℕ) (i : ℕ) → i < length l → spaced_pairs (take (i + 1) l) ≡ spaced_pairs (take i l) ++ (space ∷ hex_pair (get_or l i 0))
spaced-next l i h = rw (add-one i, take-suc l i 0 h) (spaced-more (take i l) (get_or l i 0))

-- three bytes for each, less one
pub spaced-length : (l : List ℕ) → length (spaced_pairs l) ≡ 3 * length l
unfolding spaced_pairs
spaced-length [] = refl
spaced-length (b ∷ l) = omega (arith, spaced-length l)

pub text-fits : (l : List ℕ) → length (hex_text l) ≤ 3 * length l
unfolding hex_text
text-fits [] = omega arith
text-fits (b ∷ l) = omega (arith, spaced-length l)

pub text-none : (l : List ℕ) → length l ≡ 0 → hex_text l ≡ []
unfolding hex_text
text-none [] h = refl
text-none (b ∷ l) h = absurd (omega arith)

pub text-some : (l : List ℕ) → 0 < length l → hex_text l ≡ hex_pair (get_or l 0 0) ++ spaced_pairs (drop 1 l)
unfolding hex_text
text-some [] h = absurd (omega arith)
text-some (b ∷ l) h = refl
