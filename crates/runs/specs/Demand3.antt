-- DEMAND 3, stated. For every table that loads and every list of events from its fresh state: if a telegram was accepted and no error is in force, the result last
-- answered lies within 1/2 + S/2 of the exact curve, 1/2 with linearization off; and if no command of the list stored a preselection, a condition with hysteresis has
-- changed k times only if the result travelled (k − 1)(h + 1).
-- Paper 01, "Runs". One claim about the list. This file is definitions only; `demand3` of Demand3Laws proves it.
use Rattle.std.specs.Prelude.{None, ◌≡◌, false, not, List, ℕ, ◌+◌, ◌*◌, ◌-◌, ◌≤◌, ◌<◌, T, ℤ, pos}
use Rattle.state.specs.State.{fresh_of}
use Rattle.events.specs.declared.Event.{Event}
use Rattle.integers.specs.Fraction.{Frac, Accurate}
use Rattle.parameters.specs.Load.{load_refusal}
use Rattle.parameters.specs.Slots.{linearization, mode, hysteresis, with_offset}
use Rattle.reading.specs.Reading.{curve_from, slope_at}
use Rattle.switching.specs.Travel.{travel, changes, hysteretic}
use Rattle.runs.specs.Run.{last_answer, trace_of, stored}
use Rattle.runs.specs.Book.{Book, book_of}

-- L(E), with p and O from the book; K4, with a round loop U in place of p
abbrev pub exact_at : List ℤ → Book → Frac
exact_at t b = curve_from (with_offset t b.offset) b.basis.start

pub record Demand3 (t : List ℤ) (es : List Event) : Type 0 where
  -- once there is a telegram and no error is in force, the result last answered lies within 1/2 + S/2 of L(E)
  pub accurate : T (book_of t es).seen → (last_answer t es).error ≡ None → Accurate (last_answer t es).result (exact_at t (book_of t es)) (slope_at t)
  -- with linearization off S is 0, so that it lies within 1/2
  pub half : linearization t ≡ 0 → slope_at t ≡ record { top = 0; low = 1 }
  -- condition k + 1, off at first, has changed that often only if the result, 0 at first, travelled so far: in every mode with a hysteresis, where no command
  -- stored a preselection (a teach moves P to the result, and so turns a condition without travel)
  pub travels : T (not (stored (fresh_of t) es)) → (k : ℕ) → k < 4 → T (hysteretic (mode t k)) →
      (changes false (trace_of t es k) - 1) * (hysteresis t k + 1) ≤ travel (pos 0) (trace_of t es k)

-- for every table that loads and every list of events
abbrev pub Demanded : Type 0
Demanded = (t : List ℤ) → load_refusal t ≡ 0 → (es : List Event) → Demand3 t es
