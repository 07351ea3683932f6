-- The bytes that part and end texts, and the text of a number that is not negative. Assumes nothing.
use Rattle.std.specs.Prelude.{List, ℕ, pos}
use Rattle.decimal.specs.Decimal.{text_of}

-- the bytes of a space, of a newline and of a carriage return
abbrev pub space : ℕ
space = 32

abbrev pub newline : ℕ
newline = 10

abbrev pub carriage_return : ℕ
carriage_return = 13

-- the text of a number that is not negative
abbrev pub number : ℕ → List ℕ
number n = text_of (pos n)
