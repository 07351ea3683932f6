-- DEMAND 3, proved, for every table that loads and every list of events. Accuracy: the state in the end has the reading of what the book starts from under the loaded
-- table with the book's offset, and one reading is accurate. Travel: each condition obeys its mode's law from event to event, and such a list meets the bound.
use Rattle.std.specs.Prelude.{None, ◌≡◌, refl, Bool, false, not, List, [], ◌∷◌, ℕ, ◌+◌, ◌*◌, ◌-◌, ◌≤◌, ◌<◌, T, ℤ, pos, length}
use Rattle.std.proofs.Common.{sym, ap, ◌∙◌, subst, length-set}
use Rattle.events.specs.declared.Event.{Event}
use Rattle.integers.specs.Fraction.{Frac, Ratio, Accurate}
use Rattle.measurement.specs.Curve.{steepest}
use Rattle.parameters.specs.Slots.{offset_slot, linearization, mode, hysteresis, with_offset}
use Rattle.parameters.proofs.StoreLaws.{alike-sym, alike-trans, offset-alike, offset-stored, stored-scaling, stored-points}
use Rattle.parameters.specs.Valid.{Valid}
use Rattle.parameters.proofs.ValidLaws.{loads}
use Rattle.reading.specs.declared.Basis.{Basis}
use Rattle.reading.specs.declared.Reading.{Reading}
use Rattle.reading.specs.AlikeLaws.{slope-alike, curve-alike}
use Rattle.reading.specs.Reading.{reading_of, no_halves, curve_from, slope_at}
use Rattle.reading.specs.ReadingLaws as reading
use Rattle.settings.specs.Settings.{is_teach, preselection_of, preselections_of, input_at}
use Rattle.settings.specs.SettingsLaws.{preselection-at}
use Rattle.state.specs.Refusal.{no_note}
use Rattle.state.specs.State.{fresh_of}
use Rattle.state.proofs.ValidLaws.{good-fresh}
use Rattle.switching.specs.declared.Preselection.{Preselection}
use Rattle.switching.specs.Switching.{partner_of, preselection_at}
use Rattle.switching.proofs.SwitchingLaws.{mark_at}
use Rattle.switching.specs.Travel.{Seen, travel, changes, hysteretic}
use Rattle.switching.proofs.TravelLaws.{Lawful, view, mode-bound}
use Rattle.state.specs.declared.State.{State}
use Rattle.panel.specs.Step.{step_of, unasked, answer_of}
use Rattle.state.specs.Valid.{Good}
use Rattle.panel.proofs.ValidLaws.{good-step}
use Rattle.runs.specs.Run.{run_of, last_answer, trace_of, stored}
use Rattle.runs.specs.Book.{Book, book_of}
use Rattle.runs.specs.Demand3.{exact_at, Demanded}
use Rattle.runs.proofs.RunLaws.{answer-own, last-state, last-own, own-result, own-error}
use Rattle.runs.specs.KeptLaws.{Kept, kept_fresh, kept_step}
use Rattle.runs.proofs.BookLaws.{Matches, book-run, book-fresh}
use Rattle.runs.proofs.ChangesLaws.{Unchanged, quiet-unchanged, teachless-quiet, fresh-switch, lawful, ready-fresh}

-- ---- the state in which a run ends

pub good-run : {s : State} → Good s → (es : List Event) → Good (run_of s es)
unfolding run_of
good-run g [] = g
good-run {s = s} g (e ∷ es) = good-run {s = (step_of s e).state} (good-step g e) es

pub kept_run : {t : List ℤ} {s : State} → Kept t s → (es : List Event) → Kept t (run_of s es)
unfolding run_of
kept_run k [] = k
kept_run {t = t} {s = s} k (e ∷ es) = kept_run {t = t} {s = (step_of s e).state} (kept_step t k e) es

-- ---- accuracy

module _ {t : List ℤ} (v : Valid t) where
  -- of a state that matches the book
  accurate-in : {s : State} {b : Book} → Good s → Kept t s → Matches t s b → T b.seen → s.live.reading.error ≡ None →
      Accurate s.live.reading.result (exact_at t b) (slope_at t)
  accurate-in {s} {b} g k m y e =
      rw is
      (subst (λ (S : Ratio). Accurate (reading_of s.table s.live.basis).result (exact_at t b) S) (slope-alike k.alike stored-scaling long stored-points)
      (subst (λ (u : Frac). Accurate (reading_of s.table s.live.basis).result u (slope_at s.table)) (curve-same ∙ ap (λ (z : Basis). curve_from offsetting z.start) m.basis)
      (reading.accurate g.table s.live.basis (ap (λ (r : Reading). r.error) (sym is) ∙ e))))
    where
      is : s.live.reading ≡ reading_of s.table s.live.basis
      is = k.read (subst T (sym m.seen) y)

      long : length s.table ≡ length t
      long = g.table.long ∙ sym v.long

      -- the loaded table with the book's offset
      offsetting : List ℤ
      offsetting = with_offset t b.offset

      curve-same : curve_from s.table s.live.basis.start ≡ curve_from offsetting s.live.basis.start
      curve-same =
          curve-alike (alike-trans k.alike (alike-sym (offset-alike t b.offset))) stored-scaling (long ∙ sym (length-set t offset_slot b.offset)) stored-points
          (m.offset ∙ sym (offset-stored b.offset v)) s.live.basis.start

  -- of the result last answered, with the book
  accurately : (es : List Event) → T (book_of t es).seen → (last_answer t es).error ≡ None → Accurate (last_answer t es).result (exact_at t (book_of t es)) (slope_at t)
  unfolding answer_of
  accurately es =
      let o = last-own (unasked (fresh_of t)) es (answer-own (fresh_of t) no_note no_halves) in
      rw (own-result o, own-error o, last-state (unasked (fresh_of t)) es)
      (accurate-in (good-run (good-fresh v) es) (kept_run (kept_fresh t) es) (book-run (good-fresh v) (kept_fresh t) (book-fresh t) es))

-- with linearization off S is 0
slope-off : (t : List ℤ) → linearization t ≡ 0 → slope_at t ≡ record { top = 0; low = 1 }
unfolding slope_at steepest
slope-off t e = rw e

-- ---- travel

-- the bound asks only that after each event the loaded preselections are in force
pub travels-unchanged : (t : List ℤ) (es : List Event) → Unchanged (preselections_of t) (fresh_of t) es → (k : ℕ) → k < 4 → T (hysteretic (mode t k)) →
    (changes false (trace_of t es k) - 1) * (hysteresis t k + 1) ≤ travel (pos 0) (trace_of t es k)
unfolding preselection_of
travels-unchanged t es u k small hy =
    subst (λ (p : Preselection). (changes false ss - 1) * (p.hysteresis + 1) ≤ travel (pos 0) ss) at-k
    (mode-bound (preselection_at ps k).mode (preselection_at ps k).value (preselection_at ps (partner_of k)).value (preselection_at ps k).hysteresis ss
    (subst (λ (b : Bool). Lawful (view (preselection_at ps k).mode) (mark_at ps k) (preselection_at ps k).hysteresis b ss) (rw (fresh-switch t k small))
    (lawful ps k small hy-at (fresh_of t) es (kept_fresh t) (ready-fresh ps k small hy-at t) u)))
  where
    ps : List Preselection
    ps = preselections_of t

    ss : List Seen
    ss = trace_of t es k

    at-k : preselection_at ps k ≡ preselection_of t k
    at-k = preselection-at t k small

    hy-at : T (hysteretic (preselection_at ps k).mode)
    hy-at = subst (λ (p : Preselection). T (hysteretic p.mode)) (sym at-k) hy

stored-unchanged : (t : List ℤ) (es : List Event) → T (not (stored (fresh_of t) es)) → Unchanged (preselections_of t) (fresh_of t) es
unfolding fresh_of
stored-unchanged t es n = quiet-unchanged (preselections_of t) (fresh_of t) es n refl

-- in a table without a teach the bound holds of every list
pub travels-without-teach : (t : List ℤ) → ((i : ℕ) → i < 3 → T (not (is_teach (input_at t i).action))) → (es : List Event) → (k : ℕ) → k < 4 → T (hysteretic (mode t k)) →
    (changes false (trace_of t es k) - 1) * (hysteresis t k + 1) ≤ travel (pos 0) (trace_of t es k)
travels-without-teach t none es = travels-unchanged t es (stored-unchanged t es (teachless-quiet none (fresh_of t) (kept_fresh t) es))

-- ---- demand 3

pub demand3 : Demanded
demand3 t e es =
    record {
      accurate = accurately (loads t e) es;
      half = slope-off t;
      travels = λ n. travels-unchanged t es (stored-unchanged t es n);
    }
