-- Which layouts a loaded table can have: those that pass checks 2, 3 and 4 of paper 01, "Where each check sits".
-- Every public function of this crate asks for a sound layout.
use Rattle.std.specs.Prelude.{◌⊎◌, ℕ, ◌≤◌, ◌<◌}
use Rattle.ssi.specs.declared.Layout.{Layout}

-- the error bit, 0 for none, and the level of it that means error
abbrev pub error_bit : Layout → ℕ
error_bit l = l.error_bit

abbrev pub error_level : Layout → ℕ
error_level l = l.error_level

pub record Sound (l : Layout) : Type 0 where
  -- 2: B is from 1 on, N goes to 32, the error level is 0 or 1
  pub from_one : 1 ≤ l.low
  pub to-32 : l.resolution ≤ 32
  pub level : error_level l ≤ 1
  -- 3: B ≤ H ≤ N
  pub low-high : l.low ≤ l.high
  pub high-resolution : l.high ≤ l.resolution
  -- 4: the error bit is at most N, and stands outside B to H; 0, none, is below B
  pub bit-resolution : error_bit l ≤ l.resolution
  pub outside : (error_bit l < l.low) ⊎ (l.high < error_bit l)
