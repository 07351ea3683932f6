-- A whole number z is P z − N z, its positive and its negative part, of which one is 0; and its size. Assumes nothing.
use Rattle.std.specs.Prelude.{ℕ, suc, ◌≤◌, ℤ, pos, negsuc}

abbrev pub P : ℤ → ℕ
P (pos n) = n
P (negsuc n) = 0

abbrev pub N : ℤ → ℕ
N (pos n) = 0
N (negsuc n) = suc n

-- −A ≤ z ≤ A
pub record Within (A : ℕ) (z : ℤ) : Type 0 where
  pub above : P z ≤ A
  pub below : N z ≤ A
