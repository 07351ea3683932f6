-- WHAT IS WRITTEN IN HEX IS READ: a number as k digits, and bytes as two digits each. Upper and lower case are read alike.
use Rattle.std.specs.Prelude.{◌≡◌, refl, Bool, true, false, cond, List, [], ◌∷◌, ◌++◌, ℕ, zero, suc, ◌+◌, ◌*◌, ◌/◌, ◌%◌, ◌^◌, ◌<◌, ltb, leb, length, Option, Some}
use Rattle.std.specs.Option.{is_some, unwrap_or}
use Rattle.std.proofs.Common.{sym, ap, ◌∙◌, append-nil, arith, div-add-mod', mod-lt, pow-suc, length-append, ltb-true, ltb-false, lt-ltb, leb-true}
use Rattle.decimal.specs.DigitLaws.{both_true}
use Rattle.text.specs.Marks.{space}
use Rattle.text.specs.Plain.{all_plain, Plain, Words, last, more, spoken}
use Rattle.text.specs.Hex.{between, hex_digit, all_hex, is_hex, hex_from, hex_of, hex_letter, hex_pair, spaced_pairs, hex_in, pair_words, lowered, lowered_all}
use Rattle.text.proofs.HexLaws.{Hex, digit-number, digit-upper, cases_alike}

-- ---- a number
letter-plain : (d : ℕ) → space < hex_letter d
unfolding hex_letter
letter-plain d = by (ltb d 10)
  where
    by : (t : Bool) → space < cond t (48 + d) (55 + d)
    by true = omega arith
    by false = omega arith

letter-back : (d : ℕ) → d < 16 → hex_digit (hex_letter d) ≡ Some d
unfolding hex_letter
letter-back d h = by (ltb d 10) refl
  where
    by : (t : Bool) → ltb d 10 ≡ t → hex_digit (cond t (48 + d) (55 + d)) ≡ Some d
    by true e = let l = ltb-true d 10 e in digit-number (48 + d) (omega arith) (omega arith) ∙ ap {A = ℕ} {B = Option ℕ} Some (omega arith)
    by false e = let l = ltb-false d 10 e in digit-upper (55 + d) (omega arith) (omega arith) ∙ ap {A = ℕ} {B = Option ℕ} Some (omega arith)

hex-more : (v : ℕ) (s : List ℕ) (b : ℕ) → hex_from v (s ++ (b ∷ [])) ≡ hex_from v s * 16 + unwrap_or (hex_digit b) 16
unfolding hex_from
hex-more v [] b = refl
hex-more v (a ∷ s) b = hex-more (v * 16 + unwrap_or (hex_digit a) 16) s b

all_more : (s : List ℕ) (b : ℕ) → all_hex s ≡ true → is_some (hex_digit b) ≡ true → all_hex (s ++ (b ∷ [])) ≡ true
unfolding all_hex
all_more [] b e h = rw h
all_more (a ∷ s) b e h =
    let q = both_true (is_some (hex_digit a)) (all_hex s) e in
    rw (q.0, all_more s b q.1 h)

plain_more : (s : List ℕ) (b : ℕ) → all_plain s ≡ true → space < b → all_plain (s ++ (b ∷ [])) ≡ true
unfolding all_plain
plain_more [] b e h = rw (lt-ltb space b h)
plain_more (a ∷ s) b e h =
    let q = both_true (ltb space a) (all_plain s) e in
    rw (q.0, plain_more s b q.1 h)

rest_below : (n : ℕ) → n % 16 < 16
rest_below n = mod-lt n (omega arith)

pub hexin-length : (k n : ℕ) → length (hex_in k n) ≡ k
unfolding hex_in
hexin-length zero n = refl
hexin-length (suc k) n = rw (length-append, hexin-length k (n / 16)) (omega arith)

hexin-all : (k n : ℕ) → all_hex (hex_in k n) ≡ true
unfolding hex_in all_hex
hexin-all zero n = refl
hexin-all (suc k) n = all_more (hex_in k (n / 16)) (hex_letter (n % 16)) (hexin-all k (n / 16)) (rw (letter-back (n % 16) (rest_below n)))

hexin-plain : (k n : ℕ) → all_plain (hex_in k n) ≡ true
unfolding hex_in all_plain
hexin-plain zero n = refl
hexin-plain (suc k) n = plain_more (hex_in k (n / 16)) (hex_letter (n % 16)) (hexin-plain k (n / 16)) (letter-plain (n % 16))

-- k digits are a plain word of hex digits
pub hexin-hex : (k n : ℕ) → 0 < k → Hex 1 k (hex_in k n)
hexin-hex k n h = record { some = omega (arith, hexin-length k n); few = omega (arith, hexin-length k n); all = hexin-all k n }

pub hexin-word : (k n : ℕ) → 0 < k → Plain (hex_in k n)
hexin-word k n h = record { some = omega (arith, hexin-length k n); all = hexin-plain k n }

-- K DIGITS OF A NUMBER THAT HAS NO MORE STAND FOR IT
pub hexin-back : (k n : ℕ) → n < 16 ^ k → hex_of (hex_in k n) ≡ n
unfolding hex_in hex_from
hexin-back zero n h = omega arith
hexin-back (suc k) n h =
    let q : n / 16 < 16 ^ k = div_below k n h in
    hex-more 0 (hex_in k (n / 16)) (hex_letter (n % 16)) ∙ rw (hexin-back k (n / 16) q, letter-back (n % 16) (rest_below n)) (div-add-mod' n 16)
  where
    div_below : (k n : ℕ) → n < 16 ^ suc k → n / 16 < 16 ^ k
    div_below k n h = omega (arith, div-add-mod' n 16, rw (pow-suc 16 k) at h)

-- ---- bytes
pair-plain : (b : ℕ) → Plain (hex_pair b)
unfolding all_plain
pair-plain b = record { some = omega arith; all = rw (lt-ltb space (hex_letter (b / 16)) (letter-plain (b / 16)), lt-ltb space (hex_letter (b % 16)) (letter-plain (b % 16))) }

high-below : (b : ℕ) → b < 256 → b / 16 < 16
high-below b h = omega (arith, div-add-mod' b 16)

-- A BYTE IS READ BACK
pub pair-back : (b : ℕ) → b < 256 → hex_of (hex_pair b) ≡ b
unfolding hex_from
pair-back b h = rw (letter-back (b / 16) (high-below b h), letter-back (b % 16) (rest_below b)) (omega (arith, div-add-mod' b 16))

pub pair-hex : (b : ℕ) → b < 256 → is_hex 2 2 (hex_pair b) ≡ true
unfolding is_hex all_hex
pair-hex b h = rw (letter-back (b / 16) (high-below b h), letter-back (b % 16) (rest_below b))

-- as many words as bytes, and all of them plain
pub pairs-count : (l : List ℕ) → length (pair_words l) ≡ length l
unfolding pair_words
pairs-count [] = refl
pairs-count (b ∷ l) = ap suc (pairs-count l)

pub pair-words : (w : List ℕ) (l : List ℕ) → Plain w → Words (w ∷ pair_words l)
unfolding pair_words
pair-words w [] p = last p
pair-words w (b ∷ l) p = more p (pair-words (hex_pair b) l (pair-plain b))

-- a word and pairs behind it, parted by one space: a space before each pair
pub pair-text : (w : List ℕ) (l : List ℕ) → spoken (w ∷ pair_words l) ≡ w ++ spaced_pairs l
unfolding pair_words spoken spaced_pairs
pair-text w [] = sym (append-nil w)
pair-text w (b ∷ l) = ap (λ (t : List ℕ). w ++ (space ∷ t)) (pair-text (hex_pair b) l)

-- ---- either case
lowered-digit : (b : ℕ) → hex_digit (lowered b) ≡ hex_digit b
unfolding lowered
lowered-digit b = by (between 65 70 b) refl
  where
    by : (t : Bool) → between 65 70 b ≡ t → hex_digit (cond t (b + 32) b) ≡ hex_digit b
    by true e =
        let q = both_true (leb 65 b) (leb b 70) e in
        cases_alike b (leb-true 65 b q.0) (leb-true b 70 q.1)
    by false e = refl

-- UPPER AND LOWER CASE ARE READ ALIKE, digit by digit of every word
pub lowered-alike : (v : ℕ) (s : List ℕ) → hex_from v (lowered_all s) ≡ hex_from v s
unfolding hex_from lowered_all
lowered-alike v [] = refl
lowered-alike v (b ∷ s) = ap (λ (d : Option ℕ). hex_from (v * 16 + unwrap_or d 16) (lowered_all s)) (lowered-digit b) ∙ lowered-alike (v * 16 + unwrap_or (hex_digit b) 16) s

lowered-length : (s : List ℕ) → length (lowered_all s) ≡ length s
unfolding lowered_all
lowered-length [] = refl
lowered-length (b ∷ s) = ap suc (lowered-length s)

lowered-all : (s : List ℕ) → all_hex (lowered_all s) ≡ all_hex s
unfolding all_hex lowered_all
lowered-all [] = refl
lowered-all (b ∷ s) = rw (lowered-digit b, lowered-all s)

pub lowered-hex : (least most : ℕ) (s : List ℕ) → is_hex least most (lowered_all s) ≡ is_hex least most s
unfolding is_hex
lowered-hex least most s = rw (lowered-length s, lowered-all s)
