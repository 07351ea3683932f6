-- The laws of a set of addresses: with an address and without it, every other stays; what a word and its lowest bit say of the search; and the empty set.
use Rattle.std.specs.Prelude.{◌≡◌, refl, Bool, true, false, ◌&&◌, List, [], ◌∷◌, ◌⊎◌, ℕ, None, Some, zero, suc, ◌+◌, ◌-◌, ◌*◌, ◌/◌, ◌%◌, ◌^◌, ◌≤◌, ◌<◌, max, min, length, get_or, set}
use Rattle.std.proofs.Common.{sym, ◌∙◌, ap₂, inl, inr, one-mul, lit<, eqb→eq, shl_exact, get_or-set_same, get_or-set_other}
use Rattle.std.proofs.Math.Path.{ap}
use native.Mathlib.Omega.{arith}
use borrow.Author.Tests.{eq-eqb, eqb-true, eqb-false, ne_eqb}
use lib.Pointwise.{pointwise}
use Rattle.std.specs.Int.Bits.{bit_and, bit_or, bit_xor, differ, or_add_and}
use Rattle.std.proofs.lemmas.Nat.{and_le_l, and_le_r, xor_lt}
use Rattle.std.proofs.lemmas.Nat.Bits.{same_from_bits_below, bit_at_clear_same, bit_at_clear_other}
use Rattle.std.specs.Int.{bit_not, w64}
use Rattle.std.specs.Int.Count.{count_trailing_zeros}
use Rattle.std.proofs.Math.Dec.{eqb}
use Rattle.std.proofs.Math.Pow.{shr_lt}
use Rattle.integers.specs.ChoiceLaws.{either, is_false}
use Rattle.integers.specs.TestLaws.{clash}
use Rattle.bits.specs.Bits.{bit_at}
use Rattle.bits.proofs.BitLaws.{two, bit-lt, bit-none, bit-and, bit-or, bit-xor, bit-shr, bit-power, bit-power-other, LowestBit, lowest-bit}
use Rattle.addresses.specs.declared.Addresses.{Addresses}
use Rattle.addresses.specs.Addresses.{word_at, holds, is_empty, including, excluding}
use Rattle.addresses.specs.Search.{lowest_from, lowest_above}
use Rattle.addresses.proofs.SearchLaws.{by_found, Lowest, lowest-is, lowest-found, lowest-past}

-- a bit that is 0 is not 1
not-one : {b : ℕ} → b ≡ 0 → eqb b 1 ≡ false
not-one e = rw e

-- 1 << k
pub one_bit : (k : ℕ) → k < 64 → 1 * 2 ^ k % 2 ^ 64 ≡ 2 ^ k
one_bit k h = shl_exact 1 k 64 (lit< tt) (omega arith) ∙ one-mul (2 ^ k)

-- ---- one bit of a word set or cleared

set-bit : (k w : ℕ) → bit_at k (bit_or w (2 ^ k)) ≡ 1
set-bit k w = bit-or k w (2 ^ k) ∙ ap (max (bit_at k w)) (bit-power k) ∙ by-digit (two (bit_at k w) (bit-lt k w))
  where
    by-digit : (bit_at k w ≡ 0) ⊎ (bit_at k w ≡ 1) → max (bit_at k w) 1 ≡ 1
    by-digit (inl e) = rw e
    by-digit (inr e) = rw e

set-bit-other : (i k w : ℕ) → (i ≡ k → ⊥) → bit_at i (bit_or w (2 ^ k)) ≡ bit_at i w
set-bit-other i k w n = bit-or i w (2 ^ k) ∙ ap (max (bit_at i w)) (bit-power-other i k n) ∙ by-digit (two (bit_at i w) (bit-lt i w))
  where
    by-digit : (bit_at i w ≡ 0) ⊎ (bit_at i w ≡ 1) → max (bit_at i w) 0 ≡ bit_at i w
    by-digit (inl e) = rw e
    by-digit (inr e) = rw e

-- a bit of what is left, by what was masked
left-bit : (i w m b : ℕ) → bit_at i m ≡ b → bit_at i (bit_xor w (bit_and w m)) ≡ differ (bit_at i w) (min (bit_at i w) b)
left-bit i w m b e = bit-xor i w (bit_and w m) ∙ ap (differ (bit_at i w)) (bit-and i w m ∙ ap (min (bit_at i w)) e)

clear-bit : (k w : ℕ) → bit_at k (bit_xor w (bit_and w (2 ^ k))) ≡ 0
clear-bit k w = left-bit k w (2 ^ k) 1 (bit-power k) ∙ by-digit (two (bit_at k w) (bit-lt k w))
  where
    by-digit : (bit_at k w ≡ 0) ⊎ (bit_at k w ≡ 1) → differ (bit_at k w) (min (bit_at k w) 1) ≡ 0
    by-digit (inl e) = rw e
    by-digit (inr e) = rw e

clear-bit-other : (i k w : ℕ) → (i ≡ k → ⊥) → bit_at i (bit_xor w (bit_and w (2 ^ k))) ≡ bit_at i w
clear-bit-other i k w n = left-bit i w (2 ^ k) 0 (bit-power-other i k n) ∙ by-digit (two (bit_at i w) (bit-lt i w))
  where
    by-digit : (bit_at i w ≡ 0) ⊎ (bit_at i w ≡ 1) → differ (bit_at i w) (min (bit_at i w) 0) ≡ bit_at i w
    by-digit (inl e) = rw e
    by-digit (inr e) = rw e

-- a bit cleared: what is left is the word without it
pub cleared : (w k : ℕ) → w < 2 ^ 64 → k < 64 → bit_and w (bit_not w64 (1 * 2 ^ k % 2 ^ 64)) ≡ bit_xor w (bit_and w (2 ^ k))
cleared w k small within =
    same_from_bits_below 64 (bit_and w (bit_not w64 (1 * 2 ^ k % 2 ^ 64))) (bit_xor w (bit_and w (2 ^ k)))
    (omega (arith, and_le_l w (bit_not w64 (1 * 2 ^ k % 2 ^ 64))))
    (xor_lt 64 w (bit_and w (2 ^ k)) small (omega (arith, and_le_l w (2 ^ k))))
    (λ i h. either (eqb i k)
    (λ same. let e = eqb→eq i k same in rw e (bit_at_clear_same w64 w k within ∙ sym (clear-bit k w)))
    (λ other. let n : i ≡ k → ⊥ = eqb-false i k (is_false (eqb i k) other) in
    bit_at_clear_other w64 w k within i h n ∙ sym (clear-bit-other i k w n)))

-- ---- a set with an address, and without it

-- the word that an address stands in, of the words
abbrev word_in : List ℕ → ℕ → ℕ
word_in ws a = get_or ws (a / 64) 0

module _ (ws : List ℕ) (a : ℕ) (f : ℕ → ℕ) where
  -- the word of a made anew: at a
  here : a / 64 < length ws → (v : ℕ) → bit_at (a % 64) (f (word_in ws a)) ≡ v → bit_at (a % 64) (word_in (set ws (a / 64) (f (word_in ws a))) a) ≡ v
  here l v e = ap (bit_at (a % 64)) (get_or-set_same ws (a / 64) (f (word_in ws a)) 0 l) ∙ e

  -- and at another address, whose bit it keeps
  elsewhere : (x : ℕ) → (x ≡ a → ⊥) → ((i w : ℕ) → (i ≡ a % 64 → ⊥) → bit_at i (f w) ≡ bit_at i w) → a / 64 < length ws →
      bit_at (x % 64) (word_in (set ws (a / 64) (f (word_in ws a))) x) ≡ bit_at (x % 64) (word_in ws x)
  elsewhere x n keeps l =
      either (eqb (x / 64) (a / 64))
      (λ same. let e = eqb→eq (x / 64) (a / 64) same in
      let m : x % 64 ≡ a % 64 → ⊥ = λ d. n (omega arith) in
      ap (λ (i : ℕ). bit_at (x % 64) (get_or (set ws (a / 64) (f (word_in ws a))) i 0)) e
      ∙ ap (bit_at (x % 64)) (get_or-set_same ws (a / 64) (f (word_in ws a)) 0 l)
      ∙ keeps (x % 64) (word_in ws a) m
      ∙ ap (λ (i : ℕ). bit_at (x % 64) (get_or ws i 0)) (sym e))
      (λ other. ap (bit_at (x % 64)) (get_or-set_other ws (a / 64) (x / 64) (f (word_in ws a)) 0 (eqb-false (x / 64) (a / 64) (is_false (eqb (x / 64) (a / 64)) other))))

module _ (s : Addresses) (long : length s.words ≡ 4) (a : ℕ) (high : a < 256) where
  within : a / 64 < length s.words
  within = omega arith

  pub including-same : holds (including s a) a ≡ true
  unfolding holds including
  including-same = eq-eqb _ 1 (here s.words a (λ w. bit_or w (2 ^ (a % 64))) within 1 (set-bit (a % 64) (word_at s a)))

  pub including-other : (x : ℕ) → (x ≡ a → ⊥) → holds (including s a) x ≡ holds s x
  unfolding holds including
  including-other x n =
      ap (λ (b : ℕ). eqb b 1) (elsewhere s.words a (λ w. bit_or w (2 ^ (a % 64))) x n (λ i w m. set-bit-other i (a % 64) w m) within)

  pub excluding-same : holds (excluding s a) a ≡ false
  unfolding holds excluding
  excluding-same = not-one (here s.words a (λ w. bit_xor w (bit_and w (2 ^ (a % 64)))) within 0 (clear-bit (a % 64) (word_at s a)))

  pub excluding-other : (x : ℕ) → (x ≡ a → ⊥) → holds (excluding s a) x ≡ holds s x
  unfolding holds excluding
  excluding-other x n =
      ap (λ (b : ℕ). eqb b 1) (elsewhere s.words a (λ w. bit_xor w (bit_and w (2 ^ (a % 64)))) x n (λ i w m. clear-bit-other i (a % 64) w m) within)

-- ---- a word's part from an address on

module _ (s : Addresses) (at : ℕ) where
  -- the bits of the word from `at` on
  abbrev pub rest_at : ℕ
  rest_at = word_at s at / 2 ^ (at % 64)

  -- the bit of an address at + i in the same word
  in-word : (i : ℕ) → i < 64 - at % 64 → bit_at ((at + i) % 64) (word_at s (at + i)) ≡ bit_at i rest_at
  in-word i h =
      let d : (at + i) / 64 ≡ at / 64 = omega arith in
      let m : (at + i) % 64 ≡ at % 64 + i = omega arith in
      ap₂ (λ (k w : ℕ). bit_at k (get_or s.words w 0)) m d ∙ sym (bit-shr i (at % 64) (word_at s at))

  at_place : (x : ℕ) → at ≤ x → x < at + (64 - at % 64) → (b : ℕ) → bit_at (x - at) rest_at ≡ b → bit_at (x % 64) (word_at s x) ≡ b
  at_place x low high b is =
      let e : x ≡ at + (x - at) = omega arith in
      ap (λ (y : ℕ). bit_at (y % 64) (word_at s y)) e ∙ in-word (x - at) (omega arith) ∙ is

  -- no bit is set: the search goes on at the next word
  pub rest-none : at < 256 → rest_at ≡ 0 → lowest_from (holds s) at (256 - at) ≡ lowest_from (holds s) ((at / 64 + 1) * 64) (256 - (at / 64 + 1) * 64)
  unfolding holds
  rest-none h e =
      let m : 256 - at ≡ (64 - at % 64) + (256 - (at / 64 + 1) * 64) = omega arith in
      let n : at + (64 - at % 64) ≡ (at / 64 + 1) * 64 = omega arith in
      ap (lowest_from (holds s) at) m
      ∙ lowest-past (holds s) at (64 - at % 64) (256 - (at / 64 + 1) * 64)
      (λ x low high. not-one (at_place x low high 0 (none (x - at))))
      ∙ ap (λ (y : ℕ). lowest_from (holds s) y (256 - (at / 64 + 1) * 64)) n
    where
      none : (i : ℕ) → bit_at i rest_at ≡ 0
      none i = ap (bit_at i) e ∙ bit-none i

  -- one is: the lowest of them is found
  pub rest_some : at < 256 → word_at s at < 2 ^ 64 → (rest_at ≡ 0 → ⊥) →
      (lowest_from (holds s) at (256 - at) ≡ Some (at + count_trailing_zeros 64 rest_at)) × (count_trailing_zeros 64 rest_at < 64 - at % 64)
  unfolding holds
  rest_some h small n =
      let t = count_trailing_zeros 64 rest_at in
      let b : LowestBit (64 - at % 64) rest_at t = lowest-bit (64 - at % 64) 64 rest_at (omega arith) fits (omega arith) in
      let r : Lowest (holds s) at (256 - at) (at + t) = record {
        low = omega arith;
        high = omega arith;
        passes = eq-eqb _ 1 (in-word t b.within ∙ b.is_set);
        least = λ x low high. not-one (at_place x low (omega arith) 0 (b.below (x - at) (omega arith)));
      } in
      (lowest-found (holds s) at (256 - at) (at + t) r, b.within)
    where
      fits : rest_at < 2 ^ (64 - at % 64)
      fits = shr_lt (64 - at % 64) (at % 64) (let e : 64 ≡ (64 - at % 64) + at % 64 = omega arith in rw (← e) small)

-- ---- an empty set

or-zero : (a b : ℕ) → bit_or a b ≡ 0 → (a ≡ 0) × (b ≡ 0)
or-zero a b e = (omega (arith, or_add_and a b, and_le_l a b, and_le_r a b), omega (arith, or_add_and a b, and_le_l a b, and_le_r a b))

or-none : (a b : ℕ) → eqb (bit_or a b) 0 ≡ (eqb a 0 && eqb b 0)
or-none zero zero = refl
or-none zero (suc b) = rw (ne_eqb (suc b) 0 (λ e. omega arith))
or-none (suc a) b = rw (ne_eqb (bit_or (suc a) b) 0 (λ e. omega (arith, (or-zero (suc a) b e).0)), ne_eqb (suc a) 0 (λ e. omega arith))

-- four words are all 0 where the words joined are 0
pub all_zero : (ws : List ℕ) → length ws ≡ 4
    → pointwise eqb ws (0 ∷ 0 ∷ 0 ∷ 0 ∷ []) ≡ eqb (bit_or (bit_or (get_or ws 0 0) (get_or ws 1 0)) (bit_or (get_or ws 2 0) (get_or ws 3 0))) 0
all_zero [] l = absurd (omega arith)
all_zero (a ∷ []) l = absurd (omega arith)
all_zero (a ∷ (b ∷ [])) l = absurd (omega arith)
all_zero (a ∷ (b ∷ (c ∷ []))) l = absurd (omega arith)
all_zero (a ∷ (b ∷ (c ∷ (d ∷ [])))) l =
    rw (or-none (bit_or a b) (bit_or c d), or-none a b, or-none c d) (by (eqb a 0) (eqb b 0) (eqb c 0) (eqb d 0))
  where
    by : (a b c d : Bool) → (a && (b && (c && (d && true)))) ≡ ((a && b) && (c && d))
    by false b c d = refl
    by true false c d = refl
    by true true false d = refl
    by true true true false = refl
    by true true true true = refl
all_zero (a ∷ (b ∷ (c ∷ (d ∷ (x ∷ ws))))) l = absurd (omega arith)

-- each of the four words is 0
word-zero : (s : Addresses) → is_empty s ≡ true → (i : ℕ) → i < 4 → get_or s.words i 0 ≡ 0
unfolding is_empty
word-zero s e i h = by_word i h
  where
    w : ℕ → ℕ
    w i = get_or s.words i 0

    halves : (bit_or (w 0) (w 1) ≡ 0) × (bit_or (w 2) (w 3) ≡ 0)
    halves = or-zero (bit_or (w 0) (w 1)) (bit_or (w 2) (w 3)) (eqb-true _ 0 e)

    by_word : (i : ℕ) → i < 4 → w i ≡ 0
    by_word zero h = (or-zero (w 0) (w 1) halves.0).0
    by_word (suc zero) h = (or-zero (w 0) (w 1) halves.0).1
    by_word (suc (suc zero)) h = (or-zero (w 2) (w 3) halves.1).0
    by_word (suc (suc (suc zero))) h = (or-zero (w 2) (w 3) halves.1).1
    by_word (suc (suc (suc (suc i)))) h = absurd (omega arith)

pub empty_holds : (s : Addresses) → is_empty s ≡ true → (a : ℕ) → a < 256 → holds s a ≡ false
unfolding holds
empty_holds s e a h = not-one (ap (bit_at (a % 64)) (word-zero s e (a / 64) (omega arith)) ∙ bit-none (a % 64))

-- so the search finds none
pub empty-lowest : (s : Addresses) → is_empty s ≡ true → (k : ℕ) → lowest_above (holds s) k ≡ None
empty-lowest s e k =
    by_found (lowest_above (holds s) k) (λ n. n)
    (λ b f. let r = lowest-is (holds s) (suc k) (255 - k) b f in
    absurd (clash (empty_holds s e b (omega arith)) r.passes))
