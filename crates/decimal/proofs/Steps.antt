-- What one turn of each loop does: to the digits that are left to write, and to the bytes that are left to read.
use Prim.Native.Nat.{ℕ, zero, suc, ◌+◌, ◌-◌, ◌*◌, ◌/◌, ◌%◌, ◌≤◌, ◌<◌}
use mathlib.Core.Path.{◌≡◌}
use mathlib.Core.Bool.{true}
use mathlib.Core.List.{List, [], ◌∷◌, ◌++◌, append_assoc, append-nil}
use native.Mathlib.Omega.{arith}
use native.Mathlib.Numerals.{add-one}
use lib.ListN.{length, get_or, take, drop, set, length-append, length-set, length-drop, drop_of_length-le}
use lib.Seq.{drop-cons, drop-set-lt, get_or-set_same, take_all}
use borrow.Rule.Slice.PartMut.{put_mid}
use Rattle.decimal.specs.Decimal.{largest, digit, minus, digits_of, value_from}
use Rattle.decimal.specs.ByteSteps.{is_digit, all_digits}
use Rattle.decimal.specs.DigitLaws.{digits-small, digits_more, both_true}

-- ---- writing

-- n / 10 has one digit less
pub digits-count : (n : ℕ) → 10 ≤ n → n ≤ largest → length (digits_of n) ≡ length (digits_of (n / 10)) + 1
digits-count n h i = rw (digits_more n h i, length-append)

-- the list from a store on
drop-set : (out : List ℕ) (i b : ℕ) → i < length out → drop i (set out i b) ≡ b ∷ drop (suc i) out
drop-set out i b h = rw (drop-cons (set out i b) i 0 (rw length-set h), get_or-set_same out i b 0 h, drop-set-lt (suc i) out i b (omega arith))

-- the last digit is written, and those of n / 10 are left
pub spell-more : (out : List ℕ) (n i : ℕ) → 10 ≤ n → n ≤ largest → i ≡ length (digits_of n) → i ≤ length out → digits_of (n / 10) ++ drop (i - 1) (set out (i - 1) (digit (n % 10))) ≡ digits_of n ++ drop i out
spell-more out n i h b e l =
    let m = digits-count n h b in
    let p : suc (i - 1) ≡ i = omega arith in
    rw (drop-set out (i - 1) (digit (n % 10)) (omega arith), p, digits_more n h b, append_assoc)

-- the first digit is written, and none is left
pub spell_last : (out : List ℕ) (n i : ℕ) → n < 10 → i ≡ length (digits_of n) → i ≤ length out → set out 0 (digit n) ≡ digits_of n ++ drop i out
spell_last out n i h e l =
    let m : i ≡ 1 = rw (digits-small n h) at e in
    rw (m, digits-small n h) (drop-set out 0 (digit n) (omega arith))

-- the part of a list from its second element on, which is lent whole
pub rest_all : (s : List ℕ) → take (length s - 1) (drop 1 s) ≡ drop 1 s
rest_all s = take_all (length s - 1) (drop 1 s) (omega (arith, length-drop 1 s))

-- the digits are written in the part after the first byte, then the minus sign before them
pub signed : (out ds ys : List ℕ) (r : ℕ) → 1 ≤ length out → ys ≡ ds ++ drop r (take (length out - 1) (drop 1 out))
    → set (put_mid 1 (length out - 1) out ys) 0 minus ≡ minus ∷ ds ++ drop (r + 1) out
signed [] ds ys r h e = absurd (omega arith)
signed (x ∷ xs) ds ys r h e =
    let a : ys ≡ ds ++ drop r xs = rw (rest_all (x ∷ xs)) at e in
    let l : length xs ≤ length (x ∷ xs) - 1 = omega arith in
    let b : drop (length (x ∷ xs) - 1) xs ≡ [] = drop_of_length-le xs l in
    rw (a, b, add-one r, append-nil)

-- ---- reading

-- the byte at i, and the bytes after it
pub value-drop : (v : ℕ) (s : List ℕ) (i : ℕ) → i < length s → value_from (v * 10 + (get_or s i 0 - 48)) (drop (i + 1) s) ≡ value_from v (drop i s)
unfolding value_from
value-drop v s i h = rw (add-one i, drop-cons s i 0 h)

pub value-end : (v : ℕ) (s : List ℕ) (i : ℕ) → length s ≤ i → value_from v (drop i s) ≡ v
unfolding value_from
value-end v s i h = rw (drop_of_length-le s h)

pub all-at : (s : List ℕ) (i : ℕ) → all_digits s ≡ true → i < length s → is_digit (get_or s i 0) ≡ true
unfolding all_digits
all-at [] i e h = absurd (omega arith)
all-at (b ∷ s) zero e h = (both_true (is_digit b) (all_digits s) e).0
all-at (b ∷ s) (suc i) e h = all-at s i (both_true (is_digit b) (all_digits s) e).1 (omega arith)
