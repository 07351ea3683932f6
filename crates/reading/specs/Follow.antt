-- What a result starts from, behind the telegrams before: p after direction, and while a round loop is set the count U, which follows p across the encoder's end.
-- Paper 02, K4. Assumes nothing.
use Rattle.std.specs.Prelude.{true, false, cond, List, ℕ, eqb, ℤ}
use Rattle.parameters.specs.Slots.{round_loop}
use Rattle.roundloop.specs.Count.{step_from, first_count, counted_of}
use Rattle.settings.specs.Settings.{layout_of}
use Rattle.ssi.specs.Telegram.{error_reported, modulus}
use Rattle.reading.specs.declared.Basis.{Basis}
use Rattle.reading.specs.Reading.{directed_at, basis_of}

-- before the first telegram: nothing to start from, and no count
abbrev pub no_basis : Basis
no_basis = record { start = 0; last = 0; reported = false; counted = false }

-- ---- of a round loop R and an encoder of M positions

-- "The count U starts as p modulo R at the first telegram without error 3. Each further telegram without error 3 adds the step"
unfoldable pub count_after : ℕ → ℕ → Basis → ℕ → ℕ
count_after R M b p = cond b.counted (counted_of R b.start (step_from M b.last p)) (first_count R p)

-- a telegram without error 3: U after it, and the p that the next step is counted from
unfoldable pub followed_of : ℕ → ℕ → Basis → ℕ → Basis
followed_of R M b p = record { start = count_after R M b p; last = p; reported = false; counted = true }

-- a telegram with error 3 moves neither
unfoldable pub held_of : Basis → Basis
held_of b = record { start = b.start; last = b.last; reported = true; counted = b.counted }

-- ---- of a table

-- an accepted telegram, from what the one before it left; without a round loop nothing before it matters
unfoldable pub basis_after : List ℤ → Basis → ℕ → Basis
basis_after t b w =
    cond (eqb (round_loop t) 0) (basis_of t w)
    (cond (error_reported (layout_of t) w) (held_of b) (followed_of (round_loop t) (modulus (layout_of t)) b (directed_at t w)))
