-- The text of a whole number: for every z of at most 18 digits, what is written for z is read as z, and nothing else is read as z.
-- A text is a minus sign for a number below 0 and then its digits, the most significant first, with no zero in front; 0 is the digit 0.
-- From "panelrun and its log": the numbers of the printed lines.
use Rattle.std.specs.Cmp.Lexicographic.{pointwise}
use Rattle.std.specs.Prelude.{nat_eq, ℕ, zero, suc, ◌+◌, ◌-◌, ◌*◌, ◌/◌, ◌%◌, ◌^◌, Bool, true, false, cond, ◌&&◌, List, [], ◌∷◌, ◌++◌, ltb, leb, eqb, ℤ, pos, negsuc, neg_ℤ, nat_abs, Option, Some, None}

-- the most digits that a number has here
abbrev pub most_digits : ℕ
most_digits = 18

-- the largest number with so many
abbrev pub largest : ℕ
largest = 10 ^ most_digits - 1

-- the byte of a digit, `0` to `9`
abbrev pub digit : ℕ → ℕ
digit d = 48 + d

-- the byte of the minus sign
abbrev pub minus : ℕ
minus = 45

-- the digits of n, where k digits are enough: below ten its one digit, else the digits of n / 10 and then the digit n % 10
unfoldable pub digits_in : ℕ → ℕ → List ℕ
digits_in zero n = []
digits_in (suc k) n = cond (ltb n 10) (digit n ∷ []) (digits_in k (n / 10) ++ (digit (n % 10) ∷ []))

-- the digits of a number up to the largest
unfoldable pub digits_of : ℕ → List ℕ
digits_of n = digits_in most_digits n

-- the text of a number
unfoldable pub text_of : ℤ → List ℕ
text_of (pos n) = digits_of n
text_of (negsuc n) = minus ∷ digits_of (suc n)

-- the number that digits stand for, after digits that stand for v
unfoldable pub value_from : ℕ → List ℕ → ℕ
value_from v [] = v
value_from v (b ∷ s) = value_from (v * 10 + (b - digit 0)) s

-- the only number that a text can be the text of
unfoldable pub number_in : List ℕ → ℤ
number_in [] = pos 0
number_in (b ∷ s) = cond (eqb b minus) (neg_ℤ (pos (value_from 0 s))) (pos (value_from 0 (b ∷ s)))

-- whether two texts are the same
unfoldable pub same_text : List ℕ → List ℕ → Bool
same_text s t = pointwise nat_eq s t

-- what a text is read as: a number of at most 18 digits where it is that number's text, else none, for it is malformed
unfoldable pub parsed_of : List ℕ → Option ℤ
parsed_of s = cond (same_text s (text_of (number_in s)) && leb (nat_abs (number_in s)) largest) (Some (number_in s)) None
