-- Worked cases: what the definitions give, beside what is worked out by hand. A list of them is checked by one computation. Assumes nothing.
use Rattle.std.specs.Prelude.{◌≡◌, List, [], ◌∷◌}

pub record Worked (A : Type 0) : Type 0 where
  pub is : A
  pub should : A

abbrev pub case : {A : Type 0} → A → A → Worked A
case i s = record { is = i; should = s }

abbrev pub given : {A : Type 0} → List (Worked A) → List A
given [] = []
given (c ∷ cs) = c.is ∷ given cs

abbrev pub expected : {A : Type 0} → List (Worked A) → List A
expected [] = []
expected (c ∷ cs) = c.should ∷ expected cs

-- each gives what it should
abbrev pub AllWorked : {A : Type 0} → List (Worked A) → Type 0
AllWorked cs = given cs ≡ expected cs
