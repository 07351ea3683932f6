-- The lowest address that passes a test, and how many do. Paper 02, K12, "the next higher address", "n panels registered". Assumes nothing.
use Rattle.std.specs.Prelude.{Bool, cond, ℕ, zero, suc, ◌+◌, ◌-◌, Option, None, Some}

-- the lowest of the n addresses from a on that passes
unfoldable pub lowest_from : (ℕ → Bool) → ℕ → ℕ → Option ℕ
lowest_from p a zero = None
lowest_from p a (suc n) = cond (p a) (Some a) (lowest_from p (suc a) n)

-- of the addresses above k, up to 255
abbrev pub lowest_above : (ℕ → Bool) → ℕ → Option ℕ
lowest_above p k = lowest_from p (suc k) (255 - k)

-- how many of the n addresses from a on pass
unfoldable pub count_from : (ℕ → Bool) → ℕ → ℕ → ℕ
count_from p a zero = 0
count_from p a (suc n) = cond (p a) 1 0 + count_from p (suc a) n

-- of all addresses but 0
abbrev pub count_all : (ℕ → Bool) → ℕ
count_all p = count_from p 1 255
