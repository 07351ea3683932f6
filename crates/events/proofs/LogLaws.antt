-- A log read a word at a time: from each place on, the word that stands there, by `taken_of`, and then the rest; at the end, `end_of`.
-- A loop over the words keeps: the log from its start is the events so far, and then the log from the present place on.
use Rattle.std.specs.Prelude.{◌≡◌, refl, List, [], ◌∷◌, ◌++◌, ℕ, ◌+◌, ◌≤◌, ◌<◌, length, get_or, drop, Some, None, Ok, Err}
use Rattle.std.proofs.Common.{ap, ◌∙◌, append_assoc, add-one, drop_of_length-le}
use Rattle.std.proofs.Math.Seq.{drop-cons}
use Rattle.events.specs.declared.Event.{Event}
use Rattle.events.specs.declared.Pending.{Pending}
use Rattle.events.specs.declared.Refusal.{Refusal}
use Rattle.events.specs.Log.{fresh_pending, refusal_number, Taken, taken_of, end_of, end_number, Log, before, log_from, log_of}

-- a log that ends here
abbrev pub ends : ℕ → Log
ends refusal = record { events = []; refusal = refusal }

-- a log behind events that came before
abbrev pub behind : List Event → Log → Log
behind es log = record { events = es ++ log.events; refusal = log.refusal }

-- ---- at the front of a list
pub log-word : (p : Pending) (w : ℕ) (ws : List ℕ) (left : ℕ) → log_from p (w ∷ ws) left ≡ before (taken_of p w).taken (log_from (taken_of p w).pending ws left)
unfolding log_from
log-word p w ws left = refl

pub log-end : (p : Pending) (left : ℕ) → log_from p [] left ≡ ends (end_number (end_of p left))
unfolding log_from
log-end p left = refl

pub log-start : (ws : List ℕ) (left : ℕ) → log_of ws left ≡ log_from fresh_pending ws left
unfolding log_of
log-start ws left = refl

-- ---- at place i of the words
module _ (p : Pending) (ws : List ℕ) (i left : ℕ) where
  -- there is a word
  pub log-next : i < length ws
      → log_from p (drop i ws) left ≡ before (taken_of p (get_or ws i 0)).taken (log_from (taken_of p (get_or ws i 0)).pending (drop (i + 1) ws) left)
  unfolding log_from
  log-next h = rw (add-one, drop-cons ws i 0)

  -- .. that gives an event
  pub log-happened : i < length ws → (e : Event) → (taken_of p (get_or ws i 0)).taken ≡ Ok (Some e)
      → log_from p (drop i ws) left ≡ behind (e ∷ []) (log_from (taken_of p (get_or ws i 0)).pending (drop (i + 1) ws) left)
  log-happened h e t = log-next h ∙ ap (λ (x : Taken). before x (log_from (taken_of p (get_or ws i 0)).pending (drop (i + 1) ws) left)) t

  -- .. that is an upper half
  pub log-kept : i < length ws → (taken_of p (get_or ws i 0)).taken ≡ Ok None → log_from p (drop i ws) left ≡ log_from (taken_of p (get_or ws i 0)).pending (drop (i + 1) ws) left
  log-kept h t = log-next h ∙ ap (λ (x : Taken). before x (log_from (taken_of p (get_or ws i 0)).pending (drop (i + 1) ws) left)) t

  -- .. that is refused
  pub log-refused : i < length ws → (n : Refusal) → (taken_of p (get_or ws i 0)).taken ≡ Err n → log_from p (drop i ws) left ≡ ends (refusal_number n)
  log-refused h n t = log-next h ∙ ap (λ (x : Taken). before x (log_from (taken_of p (get_or ws i 0)).pending (drop (i + 1) ws) left)) t

  -- there is none
  pub log-done : length ws ≤ i → log_from p (drop i ws) left ≡ ends (end_number (end_of p left))
  unfolding log_from
  log-done h = rw (drop_of_length-le ws h)

-- ---- the same behind the events es that came before, in the form of a loop's invariant
module _ (log : Log) (es : List Event) (p : Pending) (ws : List ℕ) (i left : ℕ) (so_far : log ≡ behind es (log_from p (drop i ws) left)) where
  pub so-far-happened : i < length ws → (e : Event) → (taken_of p (get_or ws i 0)).taken ≡ Ok (Some e)
      → log ≡ behind (es ++ (e ∷ [])) (log_from (taken_of p (get_or ws i 0)).pending (drop (i + 1) ws) left)
  so-far-happened h e t = so_far ∙ ap (behind es) (log-happened p ws i left h e t) ∙ rw append_assoc

  pub so_far_kept : i < length ws → (taken_of p (get_or ws i 0)).taken ≡ Ok None → log ≡ behind es (log_from (taken_of p (get_or ws i 0)).pending (drop (i + 1) ws) left)
  so_far_kept h t = so_far ∙ ap (behind es) (log-kept p ws i left h t)

  pub so-far-refused : i < length ws → (n : Refusal) → (taken_of p (get_or ws i 0)).taken ≡ Err n → log ≡ behind es (ends (refusal_number n))
  so-far-refused h n t = so_far ∙ ap (behind es) (log-refused p ws i left h n t)

  pub so-far-done : length ws ≤ i → log ≡ behind es (ends (end_number (end_of p left)))
  so-far-done h = so_far ∙ ap (behind es) (log-done p ws i left h)
