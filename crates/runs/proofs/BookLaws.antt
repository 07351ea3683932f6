-- The book of table and events is what the state of a run says of levels, telegram and offset. At each event both move alike, since the table in force has
-- the loaded one's layout and inputs, and since error 3 is in force exactly where the telegram's error bit reports it.
use Rattle.std.specs.Prelude.{is_none, ◌≡◌, refl, Bool, true, false, cond, ◌&&◌, ℕ, ◌<◌, eqb, leb, ℤ}
use Rattle.std.proofs.Common.{sym, ◌∙◌, subst, arith}
use Rattle.std.proofs.Math.Path.{ap}
use mathlib.Core.List.{List, [], ◌∷◌}
use Rattle.std.proofs.Math.Dec.{T}
use Rattle.std.proofs.Math.IntN.{pos}
use Rattle.events.specs.declared.Event.{Event}
use Rattle.events.specs.declared.Event.TheVariants.{Telegram, Levels, Tick}
use Rattle.integers.specs.ChoiceLaws.{by-test, both, is_true, is_false}
use Rattle.parameters.specs.Slots.{offset_slot, preselection_slot, offset, round_loop}
use Rattle.parameters.proofs.StoreLaws.{word_kept, offset-stored, stored-layout, stored-scaling, stored-input}
use Rattle.reading.specs.declared.Basis.{Basis}
use Rattle.reading.specs.Follow.{basis_after}
use Rattle.reading.specs.FollowLaws.{unfollowed, after-reported}
use Rattle.reading.specs.Reading.{accepts_of, basis_of}
use Rattle.reading.specs.AlikeLaws.{accepts-alike, basis-alike}
use Rattle.settings.specs.declared.Action.{Action}
use Rattle.settings.specs.declared.Action.TheVariants.{None, Reset, Freeze, ClearLocks, ClearExtremes, Teach}
use Rattle.settings.specs.AlikeLaws.{input-alike}
use Rattle.settings.specs.Settings.{is_reset, layout_of, input_at}
use Rattle.ssi.specs.Telegram.{error_reported}
use Rattle.state.specs.declared.State.{State}
use Rattle.state.specs.Refusal.{no_note}
use Rattle.state.specs.State.{fresh_of, error_of, reread_of, received_of}
use Rattle.state.specs.Valid.{Good}
use Rattle.inputs.specs.Commands.{Acted, acted, reset_refusal, reset_of, clear_locks_of, clear_extremes_of, teach_of, refusal_of, carried_out, command_of}
use Rattle.inputs.proofs.CommandLaws.{good-input}
use Rattle.inputs.specs.Levels.{edge_at, input_of, commands_of}
use Rattle.panel.specs.declared.Answer.{Answer}
use Rattle.panel.specs.Step.{answer_of, switched_of, displayed_of, on_telegram, on_levels, on_tick, step_of}
use Rattle.panel.proofs.ValidLaws.{good-step}
use Rattle.runs.specs.Run.{run_of}
use Rattle.runs.specs.Book.{Book, fresh_book, takes, turns_to, resets, asks_reset, reset_book, book_refusal, book_input, book_step, book_from}
use Rattle.runs.specs.KeptLaws.{Kept, kept-bit, kept-input, kept_step}

-- the state says what the book says; its result starts from what the book has, and error 3 is the book's telegram's, once there is one
pub record Matches (t : List ℤ) (s : State) (b : Book) : Type 0 where
  pub levels : s.live.levels ≡ b.levels
  pub seen : s.live.seen ≡ b.seen
  pub basis : s.live.basis ≡ b.basis
  pub reported : T b.seen → b.basis.reported ≡ error_reported (layout_of t) b.telegram
  pub offset : offset s.table ≡ b.offset

-- ---- a reset is refused in the state exactly where it is in the book

-- 13 looks at the error only to see whether it is 3, and only once there is a telegram
refusal-by : (seen reported : Bool) (error start : ℕ) → (T seen → eqb error 3 ≡ reported) → reset_refusal seen error start ≡ reset_refusal seen (cond reported 3 0) start
unfolding reset_refusal
refusal-by false reported error start f = refl
refusal-by true true error start f = rw (f tt)
refusal-by true false error start f = rw (f tt)

module _ {t : List ℤ} {s : State} {b : Book} (k : Kept t s) (m : Matches t s b) where
  refusal-same : reset_refusal s.live.seen (error_of s) s.live.basis.start ≡ book_refusal t b
  unfolding book_refusal
  refusal-same =
      rw (m.seen, ← m.basis)
      (refusal-by b.seen (error_reported (layout_of t) b.telegram) (error_of s) s.live.basis.start
      (λ y. kept-bit k (subst T (sym m.seen) y) ∙ ap (λ (z : Basis). z.reported) m.basis ∙ m.reported y))

-- ---- a command

module _ {t : List ℤ} {s : State} {b : Book} (g : Good s) (k : Kept t s) (m : Matches t s b) where
  -- O after a command
  abbrev Moved : Bool → Book
  Moved resets = cond (resets && is_none (book_refusal t b)) (reset_book b) b

  book-reset : Matches t (reset_of s) (reset_book b)
  unfolding reset_of reread_of
  book-reset =
      record {
        levels = m.levels;
        seen = m.seen;
        basis = m.basis;
        reported = m.reported;
        offset = offset-stored (pos s.live.basis.start) g.table ∙ ap (λ (z : Basis). pos z.start) m.basis;
      }

  book-command : (a : Action) → Matches t (command_of a s).state (Moved (is_reset a))
  unfolding command_of carried_out refusal_of clear_locks_of clear_extremes_of teach_of
  book-command None = m
  book-command Freeze = m
  book-command ClearLocks = record { levels = m.levels; seen = m.seen; basis = m.basis; reported = m.reported; offset = m.offset }
  book-command ClearExtremes = record { levels = m.levels; seen = m.seen; basis = m.basis; reported = m.reported; offset = m.offset }
  book-command Reset =
      rw (refusal-same k m)
      (both (is_none (book_refusal t b)) _ _ _ _ (λ (x : Acted) (u : Book). Matches t x.state u) (λ _. book-reset) (λ _. m))
  book-command (Teach j) =
      by-test (is_none (refusal_of (Teach j) s)) (acted (teach_of s j) no_note) (acted s (refusal_of (Teach j) s)) (λ (x : Acted). Matches t x.state b)
      (λ _. record {
        levels = m.levels;
        seen = m.seen;
        basis = m.basis;
        reported = m.reported;
        offset = word_kept s.table (preselection_slot j) s.live.reading.result offset_slot (λ e. omega arith) ∙ m.offset;
      })
      (λ _. m)

-- ---- an input

asks-same : {t : List ℤ} {s : State} {b : Book} → Kept t s → Matches t s b → (l i : ℕ) → i < 3 → asks_reset t b l i ≡ (edge_at s l i && is_reset (input_at s.table i).action)
unfolding asks_reset edge_at
asks-same k m l i h = rw (input-alike k.alike i (stored-input i h), m.levels)

pub book-input : {t : List ℤ} {b : Book} (l i : ℕ) → i < 3 → (x : Acted) → Good x.state → Kept t x.state → Matches t x.state b →
    Matches t (input_of l i x).state (book_input t l i b)
unfolding input_of book_input
book-input {t} {b} l i h x g k m =
    rw (asks-same k m l i h)
    (by-test (edge_at x.state l i) _ x (λ (y : Acted). Matches t y.state (Moved-by (edge_at x.state l i)))
    (λ y. rw (is_true (edge_at x.state l i) y) (book-command g k m (input_at x.state.table i).action))
    (λ n. rw (is_false (edge_at x.state l i) n) m))
  where
    Moved-by : Bool → Book
    Moved-by edge = cond ((edge && is_reset (input_at x.state.table i).action) && is_none (book_refusal t b)) (reset_book b) b

-- ---- an event

module _ {t : List ℤ} {s : State} {b : Book} (g : Good s) (k : Kept t s) (m : Matches t s b) where
  book-commands : (l : ℕ) → Matches t (commands_of s l).state (book_input t l 2 (book_input t l 1 (book_input t l 0 b)))
  unfolding commands_of
  book-commands l =
      let x₀ = acted s no_note in
      let x₁ = input_of l 0 x₀ in
      let x₂ = input_of l 1 x₁ in
      let g₁ = good-input l 0 x₀ g in
      let k₁ = kept-input t l 0 x₀ k in
      book-input l 2 (omega arith) x₂ (good-input l 1 x₁ g₁) (kept-input t l 1 x₁ k₁)
      (book-input l 1 (omega arith) x₁ g₁ k₁ (book-input l 0 (omega arith) x₀ g k m))

  pub book-step : (e : Event) → Matches t (step_of s e).state (book_step t b e)
  unfolding step_of on_telegram on_levels on_tick answer_of book_step received_of reread_of switched_of displayed_of
  book-step (Telegram w) =
      rw (accepts-alike k.alike stored-layout w)
      (both (accepts_of t w) _ _ _ _ (λ (a : Answer) (u : Book). Matches t a.state u)
      (λ _. record {
        levels = m.levels;
        seen = refl;
        basis = basis-alike k.alike stored-layout stored-scaling s.live.basis w ∙ ap (λ (z : Basis). basis_after t z w) m.basis;
        reported = λ _. after-reported t b.basis w;
        offset = m.offset;
      }) (λ _. m))
  book-step (Levels l) =
      let q = book-commands l in
      both (leb l 7) _ _ _ _ (λ (a : Answer) (u : Book). Matches t a.state u)
      (λ _. record { levels = refl; seen = q.seen; basis = q.basis; reported = q.reported; offset = q.offset }) (λ _. m)
  book-step (Tick ms) = record { levels = m.levels; seen = m.seen; basis = m.basis; reported = m.reported; offset = m.offset }

-- ---- a run

pub book-run : {t : List ℤ} {s : State} {b : Book} → Good s → Kept t s → Matches t s b → (es : List Event) → Matches t (run_of s es) (book_from t b es)
unfolding run_of book_from
book-run g k m [] = m
book-run {t = t} {s = s} {b = b} g k m (e ∷ es) =
    book-run {t = t} {s = (step_of s e).state} {b = book_step t b e} (good-step g e) (kept_step t k e) (book-step g k m e) es

pub book-fresh : (t : List ℤ) → Matches t (fresh_of t) (fresh_book t)
unfolding fresh_of
book-fresh t = record { levels = refl; seen = refl; basis = refl; reported = λ n. absurd n; offset = refl }

-- ---- without a round loop E takes p from the last telegram alone

abbrev pub Plain : List ℤ → Book → Type 0
Plain t b = T b.seen → b.basis ≡ basis_of t b.telegram

module _ (t : List ℤ) (none : round_loop t ≡ 0) where
  plain-input : (l i : ℕ) (b : Book) → Plain t b → Plain t (book_input t l i b)
  unfolding book_input
  plain-input l i b p = by-test (resets t b l i) (reset_book b) b (Plain t) (λ _. p) (λ _. p)

  plain_step : (b : Book) (e : Event) → Plain t b → Plain t (book_step t b e)
  unfolding book_step
  plain_step b (Telegram w) p = by-test (accepts_of t w) (takes t b w) b (Plain t) (λ _ _. unfollowed t b.basis w none) (λ _. p)
  plain_step b (Levels l) p =
      let b₁ = book_input t l 0 b in
      let b₂ = book_input t l 1 b₁ in
      by-test (leb l 7) (turns_to (book_input t l 2 b₂) l) b (Plain t) (λ _. plain-input l 2 b₂ (plain-input l 1 b₁ (plain-input l 0 b p))) (λ _. p)
  plain_step b (Tick ms) p = p

  pub plain-run : (b : Book) (es : List Event) → Plain t b → Plain t (book_from t b es)
  unfolding book_from
  plain-run b [] p = p
  plain-run b (e ∷ es) p = plain-run (book_step t b e) es (plain_step b e p)
