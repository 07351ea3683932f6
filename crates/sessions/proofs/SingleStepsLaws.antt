-- A burst is its telegrams one by one: by induction over the list, behind any answer.
use Rattle.std.specs.Prelude.{Option, Some, is_none, ◌≡◌, refl, Bool, true, false, ℕ, suc, ◌+◌, ◌<◌, ◌≤◌, leb, ℤ, length, get_or, take}
use Rattle.std.proofs.Common.{sym, ◌∙◌, inl, add_assoc, leb-true, leb-false}
use Rattle.std.proofs.Math.Path.{ap, subst}
use Rattle.std.proofs.Math.Bool.{cond}
use mathlib.Core.List.{List, [], ◌∷◌}
use Rattle.std.proofs.Math.Logic.{inr}
use native.Mathlib.Omega.{arith}
use Rattle.burst.specs.declared.Burst.{Burst}
use Rattle.burst.specs.Burst.{most_telegrams, burst, noted, answer_to, taken_from, burst_of}
use Rattle.events.specs.declared.Event.TheVariants.{Telegram}
use Rattle.integers.specs.ChoiceLaws.{by-test, map-cond, is_true, is_false}
use Rattle.panel.specs.declared.Answer.{Answer}
use Rattle.panel.specs.Step.{unasked, answer_of, step_of, on_telegram, switched_of, displayed_of}
use Rattle.reading.specs.Reading.{accepts_of}
use Rattle.runs.specs.Run.{run_of, answers_of, last_of}
use Rattle.runs.proofs.RunLaws.{last-state}
use Rattle.state.specs.declared.Refusal.{Refusal}
use Rattle.state.specs.declared.Refusal.TheVariants.{BitAbove, BurstTooLong}
use Rattle.state.specs.declared.State.{State}
use Rattle.state.specs.Refusal.{no_note}
use Rattle.state.specs.State.{reread_of, received_of}
use Rattle.sessions.specs.Session.{events_of}
use Rattle.sessions.specs.SingleSteps.{all_accepted, Stops, SingleSteps, AsSingleSteps}

-- ---- one telegram

-- the note of a telegram is none where it is accepted, else 11
telegram-note : (s : State) (w : ℕ) → (step_of s (Telegram w)).note ≡ cond (accepts_of s.table w) no_note (Some BitAbove)
unfolding step_of on_telegram answer_of
telegram-note s w = map-cond (λ (a : Answer). a.note) (accepts_of s.table w) _ _

-- and the table stays
telegram-table : (s : State) (w : ℕ) → (step_of s (Telegram w)).state.table ≡ s.table
unfolding step_of on_telegram answer_of received_of reread_of switched_of displayed_of
telegram-table s w = by-test (accepts_of s.table w) _ _ (λ (a : Answer). a.state.table ≡ s.table) (λ _. refl) (λ _. refl)

-- ---- the count goes on from where it is

shifted : (n m : ℕ) (a : Answer) (ws : List ℕ) → taken_from (n + m) a ws ≡ burst (n + (taken_from m a ws).count) (taken_from m a ws).answer
unfolding taken_from
shifted n m a [] = refl
shifted n m a (w ∷ ws) = go (is_none (answer_to a w).note) (shifted n (m + 1) (answer_to a w) ws)
  where
    go : (b : Bool) →
        taken_from (n + (m + 1)) (answer_to a w) ws ≡ burst (n + (taken_from (m + 1) (answer_to a w) ws).count) (taken_from (m + 1) (answer_to a w) ws).answer →
        cond b (taken_from (n + m + 1) (answer_to a w) ws) (burst (n + m) (noted a (answer_to a w).note))
        ≡ burst (n + (cond b (taken_from (m + 1) (answer_to a w) ws) (burst m (noted a (answer_to a w).note))).count)
        (cond b (taken_from (m + 1) (answer_to a w) ws) (burst m (noted a (answer_to a w).note))).answer
    go true h = ap (λ (k : ℕ). taken_from k (answer_to a w) ws) (add_assoc n m 1) ∙ h
    go false h = refl

-- ---- behind an answer

-- what is left to take behind an answer without a note
record Behind (a : Answer) (ws : List ℕ) (x : Burst) : Type 0 where
  answer : x.answer ≡ noted (last_of a (answers_of a.state (events_of (take x.count ws)))) x.answer.note
  accepted : all_accepted a.state.table (take x.count ws) ≡ true
  stops : Stops a.state.table ws x

one_more_lem : (n : ℕ) → 1 + n ≡ suc n
one_more_lem n = omega arith

-- the first is taken, and then the rest
module _ (a : Answer) (w : ℕ) (ws : List ℕ) (e : accepts_of a.state.table w ≡ true) where
  first_taken : taken_from 0 a (w ∷ ws) ≡ burst (suc (taken_from 0 (answer_to a w) ws).count) (taken_from 0 (answer_to a w) ws).answer
  unfolding taken_from
  first_taken =
      let n : (answer_to a w).note ≡ no_note = telegram-note a.state w ∙ rw e in
      let x = taken_from 0 (answer_to a w) ws in
      ap (λ (k : Option Refusal). cond (is_none k) (taken_from 1 (answer_to a w) ws) (burst 0 (noted a k))) n
      ∙ shifted 1 0 (answer_to a w) ws
      ∙ ap (λ (k : ℕ). burst k x.answer) (one_more_lem x.count)

  stops-later : (x : Burst) → Stops (answer_to a w).state.table ws x → Stops a.state.table (w ∷ ws) (burst (suc x.count) x.answer)
  stops-later x (inl h) = inl (h.0, ap suc h.1)
  stops-later x (inr h) = inr (h.0, omega (arith, h.1), ap (λ (t : List ℤ). accepts_of t (get_or ws x.count 0)) (sym (telegram-table a.state w)) ∙ h.2)

  behind-first : Behind (answer_to a w) ws (taken_from 0 (answer_to a w) ws) → Behind a (w ∷ ws) (taken_from 0 a (w ∷ ws))
  unfolding events_of answers_of last_of all_accepted
  behind-first h =
      let x = taken_from 0 (answer_to a w) ws in
      subst (Behind a (w ∷ ws)) (sym first_taken)
      (record {
        answer = h.answer;
        accepted = rw e (ap (λ (t : List ℤ). all_accepted t (take x.count ws)) (sym (telegram-table a.state w)) ∙ h.accepted);
        stops = stops-later x h.stops;
      })

-- the first is refused
module _ (a : Answer) (w : ℕ) (ws : List ℕ) (e : accepts_of a.state.table w ≡ false) where
  first-refused : taken_from 0 a (w ∷ ws) ≡ burst 0 (noted a (Some BitAbove))
  unfolding taken_from
  first-refused = let n : (answer_to a w).note ≡ Some BitAbove = telegram-note a.state w ∙ rw e in
      ap (λ (k : Option Refusal). cond (is_none k) (taken_from 1 (answer_to a w) ws) (burst 0 (noted a k))) n

  behind-refused : Behind a (w ∷ ws) (taken_from 0 a (w ∷ ws))
  unfolding events_of answers_of last_of all_accepted noted
  behind-refused = subst (Behind a (w ∷ ws)) (sym first-refused) (record { answer = refl; accepted = refl; stops = inr (refl, omega arith, e) })

behind : (a : Answer) (ws : List ℕ) → a.note ≡ no_note → Behind a ws (taken_from 0 a ws)
unfolding taken_from events_of answers_of last_of all_accepted noted
behind a [] z = record { answer = refl; accepted = refl; stops = inl (z, refl) }
behind a (w ∷ ws) z = go (accepts_of a.state.table w) refl (behind (answer_to a w) ws)
  where
    go : (b : Bool) → accepts_of a.state.table w ≡ b → ((answer_to a w).note ≡ no_note → Behind (answer_to a w) ws (taken_from 0 (answer_to a w) ws)) →
        Behind a (w ∷ ws) (taken_from 0 a (w ∷ ws))
    go true e h = behind-first a w ws e (h (telegram-note a.state w ∙ rw e))
    go false e h = behind-refused a w ws e

-- ---- the whole burst

few : (s : State) (ws : List ℕ) → length ws ≤ most_telegrams → SingleSteps s ws (taken_from 0 (unasked s) ws)
unfolding noted answer_of
few s ws l =
    let x = taken_from 0 (unasked s) ws in
    let h = behind (unasked s) ws refl in
    record {
      state = ap (λ (a : Answer). a.state) h.answer ∙ last-state (unasked s) (events_of (take x.count ws));
      answer = h.answer;
      accepted = h.accepted;
      stops = λ _. h.stops;
      many = λ m. absurd (omega (arith, l, m));
    }

many : (s : State) (ws : List ℕ) → most_telegrams < length ws → SingleSteps s ws (burst 0 (noted (unasked s) (Some BurstTooLong)))
unfolding noted answer_of events_of run_of answers_of last_of all_accepted
many s ws m = record { state = refl; answer = refl; accepted = refl; stops = λ l. absurd (omega (arith, l, m)); many = λ _. (refl, refl) }

pub as-single-steps : AsSingleSteps
unfolding burst_of
as-single-steps s ws =
    by-test (leb (length ws) most_telegrams) _ _ (SingleSteps s ws)
    (λ y. few s ws (leb-true (length ws) most_telegrams (is_true _ y)))
    (λ n. many s ws (leb-false (length ws) most_telegrams (is_false _ n)))
