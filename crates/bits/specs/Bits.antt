-- The bits of a number. Bits are numbered from 0 here. Assumes nothing.
use Rattle.std.specs.Prelude.{ℕ, ◌/◌, ◌%◌, ◌^◌}

-- bit k of a number
abbrev pub bit_at : ℕ → ℕ → ℕ
bit_at k t = t / 2 ^ k % 2
