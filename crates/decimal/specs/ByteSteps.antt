-- A text judged byte by byte: the texts of the numbers from 0 to the largest are those of one to 18 digits, the first of several not 0.
use Rattle.std.specs.Prelude.{ℕ, Bool, false, cond, ◌&&◌, List, ltb, leb, eqb, length, get_or}
use Rattle.std.specs.List.{list_all}
use Rattle.decimal.specs.Decimal.{most_digits, digit}

-- a byte is a digit
abbrev pub is_digit : ℕ → Bool
is_digit b = leb (digit 0) b && leb b (digit 9)

-- every byte is a digit
unfoldable pub all_digits : List ℕ → Bool
all_digits s = list_all is_digit s

-- one to 18 digits, the first of several not 0
unfoldable pub is_natural : List ℕ → Bool
is_natural s =
    cond (eqb (length s) 0) false
    (cond (ltb most_digits (length s)) false
    (cond (eqb (get_or s 0 0) (digit 0)) (eqb (length s) 1) (all_digits s)))
