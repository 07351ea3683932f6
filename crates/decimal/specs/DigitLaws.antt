-- Laws of digits. The digits of n by the recursion on n / 10, which every law follows.
use Rattle.std.specs.Prelude.{ℕ, zero, suc, ◌+◌, ◌-◌, ◌*◌, ◌/◌, ◌%◌, ◌^◌, ◌≤◌, ◌<◌, ◌≡◌, refl, Bool, true, false, cond, ◌&&◌, List, [], ◌∷◌, ◌++◌, ltb, leb, length, get_or}
use Rattle.std.proofs.Common.{sym, ap, ◌∙◌, append_assoc, append-nil, arith, div-add-mod', mod-lt, mul_assoc, mul-le-mul_right, lt_of_lt_of_le, pow-suc, length-append, ltb-true, ltb-false, lt-ltb, le-ltb, leb-true, le-leb}
use Rattle.std.proofs.lemmas.Bool.{false≢true}
use Rattle.std.proofs.Math.Nat.{div-lt_self, pow-succ', pow-le-pow_right}
use Rattle.std.proofs.Math.Decide.{dec_le}
use Rattle.std.proofs.Math.ListN.{get_or-append}
use Rattle.decimal.specs.Decimal.{largest, digit, digits_in, digits_of, value_from}
use Rattle.decimal.specs.ByteSteps.{is_digit, all_digits}

pub shorter : (n : ℕ) → 10 ≤ n → n / 10 < n
shorter n h = div-lt_self (omega arith) (omega arith)

pub rest-small : (n : ℕ) → n % 10 < 10
rest-small n = mod-lt n (omega arith)

tenth-below : (k n : ℕ) → n < 10 ^ suc k → n / 10 < 10 ^ k
tenth-below k n h = omega (arith, pow-suc 10 k, div-add-mod' n 10)

-- ---- the digits of n, without how many are enough

-- any two numbers of digits that are enough give the same digits
enough-alike : (k j n : ℕ) → n < 10 ^ suc k → n < 10 ^ suc j → digits_in (suc k) n ≡ digits_in (suc j) n
unfolding digits_in
enough-alike zero zero n h i = refl
enough-alike zero (suc j) n h i = rw (lt-ltb n 10 (omega (arith, pow-suc 10 0)))
enough-alike (suc k) zero n h i = rw (lt-ltb n 10 (omega (arith, pow-suc 10 0)))
enough-alike (suc k) (suc j) n h i =
    rw (enough-alike k j (n / 10) (tenth-below (suc k) n h) (tenth-below (suc j) n i))

pub digits-small : (n : ℕ) → n < 10 → digits_of n ≡ digit n ∷ []
unfolding digits_of digits_in
digits-small n h = rw (lt-ltb n 10 h)

more-in : (k n : ℕ) → 10 ≤ n → digits_in (suc k) n ≡ digits_in k (n / 10) ++ (digit (n % 10) ∷ [])
unfolding digits_in
more-in k n h = rw (le-ltb n 10 h)

pub digits_more : (n : ℕ) → 10 ≤ n → n ≤ largest → digits_of n ≡ digits_of (n / 10) ++ (digit (n % 10) ∷ [])
unfolding digits_of
digits_more n h i =
    let l = tenth-below 17 n (omega arith) in
    more-in 17 n h ∙ ap (λ (s : List ℕ). s ++ (digit (n % 10) ∷ [])) (enough-alike 16 17 (n / 10) l (omega arith))

-- a property of every number of at most 18 digits: of those below ten, and of each other one where n / 10 has it
pub by-tens : (Q : ℕ → Type 0) → ((n : ℕ) → n < 10 → Q n) → ((n : ℕ) → 10 ≤ n → n ≤ largest → Q (n / 10) → Q n) → (n : ℕ) → n ≤ largest → Q n
by-tens Q small more n h = go n n (omega arith) h
  where
    go : (k m : ℕ) → m ≤ k → m ≤ largest → Q m
    go zero m h i = small m (omega arith)
    go (suc k) m h i = tested (ltb m 10) refl (go k (m / 10))
      where
        tested : (t : Bool) → ltb m 10 ≡ t → (m / 10 ≤ k → m / 10 ≤ largest → Q (m / 10)) → Q m
        tested true e r = small m (ltb-true m 10 e)
        tested false e r =
            let l = shorter m (ltb-false m 10 e) in
            more m (ltb-false m 10 e) i (r (omega arith) (omega arith))

-- ---- how many they are

some_in : (k n : ℕ) → 1 ≤ length (digits_in (suc k) n)
unfolding digits_in
some_in k n = tested (ltb n 10)
  where
    tested : (t : Bool) → 1 ≤ length (cond t (digit n ∷ []) (digits_in k (n / 10) ++ (digit (n % 10) ∷ [])))
    tested true = omega arith
    tested false = rw length-append (omega arith)

few-in : (k n : ℕ) → length (digits_in k n) ≤ k
unfolding digits_in
few-in zero n = omega arith
few-in (suc k) n = tested (ltb n 10) (few-in k (n / 10))
  where
    tested : (t : Bool) → length (digits_in k (n / 10)) ≤ k → length (cond t (digit n ∷ []) (digits_in k (n / 10) ++ (digit (n % 10) ∷ []))) ≤ suc k
    tested true l = omega arith
    tested false l = rw length-append (omega arith)

pub digits-some : (n : ℕ) → 1 ≤ length (digits_of n)
unfolding digits_of
digits-some n = some_in 17 n

pub digits-few : (n : ℕ) → length (digits_of n) ≤ 18
unfolding digits_of
digits-few n = few-in 18 n

-- a number below 10 ^ k has at most k digits
pub digits-within : (k n : ℕ) → n ≤ largest → 1 ≤ k → n < 10 ^ k → length (digits_of n) ≤ k
unfolding digits_of
digits-within zero n i p h = absurd (omega arith)
digits-within (suc k) n i p h = rw (enough-alike 17 k n (omega arith) h) (few-in (suc k) n)

-- ---- what they stand for

pub value-append : (v : ℕ) (s t : List ℕ) → value_from v (s ++ t) ≡ value_from (value_from v s) t
unfolding value_from
value-append v [] t = refl
value-append v (b ∷ s) t = value-append (v * 10 + (b - 48)) s t

pub value-digits : (n : ℕ) → n ≤ largest → value_from 0 (digits_of n) ≡ n
unfolding value_from
value-digits =
    by-tens (λ n. value_from 0 (digits_of n) ≡ n)
    (λ n h. rw (digits-small n h) (omega arith))
    (λ n h i q. rw (digits_more n h i, value-append, q) (omega (arith, div-add-mod' n 10)))

-- ---- their bytes

pub and-true : (a b : Bool) → a ≡ true → b ≡ true → a && b ≡ true
and-true a b e f = rw (e, f)

pub both_true : (a b : Bool) → a && b ≡ true → (a ≡ true) × (b ≡ true)
both_true true b e = (refl, e)
both_true false b e = absurd (false≢true e)

pub digit-is : (d : ℕ) → d < 10 → is_digit (digit d) ≡ true
digit-is d h = and-true (leb 48 (48 + d)) (leb (48 + d) 57) (le-leb 48 (48 + d) (omega arith)) (le-leb (48 + d) 57 (omega arith))

pub digit-from : (b : ℕ) → is_digit b ≡ true → 48 ≤ b
digit-from b e = leb-true 48 b (both_true (leb 48 b) (leb b 57) e).0

pub digit-to : (b : ℕ) → is_digit b ≡ true → b ≤ 57
digit-to b e = leb-true b 57 (both_true (leb 48 b) (leb b 57) e).1

-- the first byte, and the others
pub all_head : (b : ℕ) (s : List ℕ) → all_digits (b ∷ s) ≡ true → is_digit b ≡ true
unfolding all_digits
all_head b s e = (both_true (is_digit b) (all_digits s) e).0

pub all_tail : (b : ℕ) (s : List ℕ) → all_digits (b ∷ s) ≡ true → all_digits s ≡ true
unfolding all_digits
all_tail b s e = (both_true (is_digit b) (all_digits s) e).1

all_append : (s t : List ℕ) → all_digits s ≡ true → all_digits t ≡ true → all_digits (s ++ t) ≡ true
unfolding all_digits
all_append [] t e f = f
all_append (b ∷ s) t e f = and-true (is_digit b) (all_digits (s ++ t)) (all_head b s e) (all_append s t (all_tail b s e) f)

pub digits-all : (n : ℕ) → n ≤ largest → all_digits (digits_of n) ≡ true
unfolding all_digits
digits-all =
    by-tens (λ n. all_digits (digits_of n) ≡ true)
    (λ n h. rw (digits-small n h, digit-is n h))
    (λ n h i q. rw (digits_more n h i) (all_append (digits_of (n / 10)) (digit (n % 10) ∷ []) q (rw (digit-is (n % 10) (rest-small n)))))

-- the first digit of a number above 0 is not 0
pub digits-lead : (n : ℕ) → n ≤ largest → 0 < n → 48 < get_or (digits_of n) 0 0
digits-lead =
    by-tens (λ n. 0 < n → 48 < get_or (digits_of n) 0 0)
    (λ n h p. rw (digits-small n h) (omega arith))
    (λ n h i q p. rw (digits_more n h i, get_or-append (digits_of (n / 10)) (digit (n % 10) ∷ []) 0 0 (digits-some (n / 10))) (q (omega (arith, div-add-mod' n 10, rest-small n))))

-- ---- digits that are read are the digits of what they stand for

-- what digits stand for only grows with each digit
pub value_grows : (v : ℕ) (s : List ℕ) → v ≤ value_from v s
unfolding value_from
value_grows v [] = omega arith
value_grows v (b ∷ s) = omega (arith, value_grows (v * 10 + (b - 48)) s)

-- one digit more
digits-next : (v b : ℕ) → 0 < v → v * 10 + (b - 48) ≤ largest → is_digit b ≡ true → digits_of (v * 10 + (b - 48)) ≡ digits_of v ++ (b ∷ [])
digits-next v b p i e =
    let l = digit-from b e in
    let m = digit-to b e in
    let n = v * 10 + (b - 48) in
    let q : n / 10 ≡ v = omega (arith, div-add-mod' n 10, rest-small n) in
    let r : digit (n % 10) ≡ b = omega (arith, div-add-mod' n 10, rest-small n) in
    rw (digits_more n (omega arith) i, q, r)

pub digits_value : (v : ℕ) (s : List ℕ) → 0 < v → value_from v s ≤ largest → all_digits s ≡ true → digits_of (value_from v s) ≡ digits_of v ++ s
unfolding value_from all_digits
digits_value v [] p i e = sym (append-nil (digits_of v))
digits_value v (b ∷ s) p i e =
    let n = v * 10 + (b - 48) in
    digits_value n s (omega arith) i (all_tail b s e)
    ∙ rw (digits-next v b p (omega (arith, value_grows n s)) (all_head b s e), append_assoc)

-- k digits stand for a number below 10 ^ k
pub value-below : (v : ℕ) (s : List ℕ) → all_digits s ≡ true → value_from v s < suc v * 10 ^ length s
unfolding value_from all_digits
value-below v [] e = omega arith
value-below v (b ∷ s) e =
    let l = digit-to b (all_head b s e) in
    let m : suc (v * 10 + (b - 48)) ≤ suc v * 10 = omega arith in
    let r = value-below (v * 10 + (b - 48)) s (all_tail b s e) in
    lt_of_lt_of_le r (rw (pow-succ' 10 (length s), ← mul_assoc (suc v) 10 (10 ^ length s)) (mul-le-mul_right (10 ^ length s) m))

-- a number from 10 ^ k on has more than k digits
pub digits-beyond : (k n : ℕ) → n ≤ largest → 10 ^ k ≤ n → k < length (digits_of n)
digits-beyond k n i h = go (dec_le (length (digits_of n)) k)
  where
    go : Dec (length (digits_of n) ≤ k) → k < length (digits_of n)
    go (yes y) =
        absurd (omega (arith, pow-le-pow_right {n = 10} (omega arith) y, value-below 0 (digits_of n) (digits-all n i), value-digits n i))
    go (no y) = omega (arith, y)
