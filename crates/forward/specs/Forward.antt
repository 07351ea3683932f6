-- FORWARD MEANS FORWARD, stated. In a setter's words: slot 6 says forward, slot 7 no round loop, and from each control point in use to the next my y never falls
-- (with linearization off nobody asks for the points). Then digits never run back while the carriage moves on: whatever happens between two telegrams, if
-- nobody resets and neither shows an error, the one at the greater position never gives the smaller result.
-- Request K14. This file is definitions only; `readings`, `runs` and `telegrams` of ForwardLaws prove it, and Cases shows that every condition is needed.
use Rattle.std.specs.Prelude.{None, ◌≡◌, Bool, false, not, ◌&&◌, ◌||◌, List, [], ◌∷◌, ◌++◌, ℕ, ◌+◌, ◌≤◌, T, eqb, ltb, leb, ℤ, ◌≤ℤ◌}
use Rattle.std.specs.Int.Signed.{lt_z}
use Rattle.events.specs.declared.Event.{Event}
use Rattle.events.specs.declared.Event.TheVariants.{Telegram, Levels, Tick}
use Rattle.integers.specs.Choice.{some}
use Rattle.parameters.specs.Load.{load_refusal}
use Rattle.parameters.specs.Slots.{direction, round_loop, linearization, points_in_use, point_y}
use Rattle.reading.specs.declared.Reading.{Reading}
use Rattle.reading.specs.Reading.{accepts_of, basis_of, reading_of}
use Rattle.settings.specs.Settings.{layout_of}
use Rattle.ssi.specs.Telegram.{position_of}
use Rattle.panel.specs.declared.Answer.{Answer}
use Rattle.runs.specs.Book.{Book, resets, book_step, book_of}
use Rattle.runs.specs.Run.{last_answer}

-- ---- what is asked of the table

-- the y falls after point j + 1: the next point is in use too, and its y is below
unfoldable pub falls_after : List ℤ → ℕ → Bool
falls_after t j = ltb (j + 1) (points_in_use t) && lt_z (point_y t (j + 1)) (point_y t j)

-- "used y that never fall .. with mode off, the condition on y falls away": linearization is on, and the y falls somewhere
unfoldable pub y_falls : List ℤ → Bool
y_falls t = not (eqb (linearization t) 0) && some 23 (falls_after t)

-- "direction forward, no round loop .. and used y that never fall", of a table that loads
pub record Forward (t : List ℤ) : Type 0 where
  pub loads : load_refusal t ≡ 0
  pub forward : direction t ≡ 0
  pub no_loop : round_loop t ≡ 0
  pub never-falls : y_falls t ≡ false

-- ---- of readings: two telegrams under one table, and so "equal offset"

-- p of a telegram, and its reading
abbrev pub position_at : List ℤ → ℕ → ℕ
position_at t w = position_of (layout_of t) w

abbrev pub reading_at : List ℤ → ℕ → Reading
reading_at t w = reading_of t (basis_of t w)

-- "a greater p never gives a smaller result, errors left aside"
abbrev pub ForwardReadings : Type 0
ForwardReadings = (t : List ℤ) → Forward t → (w w' : ℕ) → position_at t w ≤ position_at t w' →
    (reading_at t w).error ≡ None → (reading_at t w').error ≡ None → (reading_at t w).result ≤ℤ (reading_at t w').result

-- ---- of runs: two runs of one table, or two moments of one run, at equal offset by the book

-- the results last answered stand as the positions of the telegrams last accepted
abbrev pub ForwardRuns : Type 0
ForwardRuns = (t : List ℤ) → Forward t → (es es' : List Event) → T (book_of t es).seen → T (book_of t es').seen → (book_of t es).offset ≡ (book_of t es').offset →
    position_at t (book_of t es).telegram ≤ position_at t (book_of t es').telegram →
    (last_answer t es).error ≡ None → (last_answer t es').error ≡ None → (last_answer t es).result ≤ℤ (last_answer t es').result

-- ---- of two telegrams of one run between resets

-- an event carries a reset out: one of the three inputs does, by the book
unfoldable pub reset_by : List ℤ → Book → Event → Bool
reset_by t b (Telegram w) = false
reset_by t b (Levels l) = leb l 7 && some 3 (resets t b l)
reset_by t b (Tick ms) = false

-- some event of a list does
unfoldable pub reset_in : List ℤ → Book → List Event → Bool
reset_in t b [] = false
reset_in t b (e ∷ es) = reset_by t b e || reset_in t (book_step t b e) es

-- some events and a telegram behind them, and the answer to it
abbrev pub followed_by : List Event → ℕ → List Event
followed_by es w = es ++ (Telegram w ∷ [])

abbrev pub answer_to : List ℤ → List Event → ℕ → Answer
answer_to t es w = last_answer t (followed_by es w)

-- both are accepted, and no event between them carries a reset out
abbrev pub ForwardTelegrams : Type 0
ForwardTelegrams = (t : List ℤ) → Forward t → (es between : List Event) (w w' : ℕ) → T (accepts_of t w) → T (accepts_of t w') → reset_in t (book_of t (followed_by es w)) between ≡ false →
    position_at t w ≤ position_at t w' → (answer_to t es w).error ≡ None → (answer_to t (followed_by es w ++ between) w').error ≡ None →
    (answer_to t es w).result ≤ℤ (answer_to t (followed_by es w ++ between) w').result
