-- What the functions put for a whole input, in whatever pieces it comes, is what panelrun means: `output-in-pieces`.
use Rattle.std.specs.Prelude.{◌≡◌, refl, Option, Some, None, is_none, Bool, true, false, List, [], ◌∷◌, ◌++◌, ℕ, ◌%◌, ◌<◌, eqb, length, not, Ok, Err, is_some}
use Rattle.std.proofs.Common.{inl, inr, sym, ap, ◌∙◌, append_assoc, append-nil, arith, take_at, drop_at, take_all}
use Rattle.events.specs.declared.Pending.{Pending}
use Rattle.events.specs.declared.Refusal.{Refusal}
use Rattle.events.specs.Bytes.{words_in, left_over, log_of_bytes}
use Rattle.events.specs.Log.{refusal_number, Taken, taken_of, end_of, end_number, Log, before, log_from}
use Rattle.events.proofs.LogLaws.{log-word, log-end, log-start}
use Rattle.events.proofs.WordLaws.{Reason, word-reason}
use Rattle.lines.specs.Lines.{header_line, event_line, next_count, end_line}
use Rattle.parameters.specs.declared.Refusal.{Refusal as LoadRefusal}
use Rattle.panel.specs.declared.Loaded.{Loaded}
use Rattle.state.specs.declared.State.{State}
use Rattle.panel.specs.Load.{loaded_of}
use Rattle.panel.specs.Step.{step_of}
use Rattle.logrun.specs.declared.Progress.{Progress}
use Rattle.logrun.specs.Input.{table_bytes, table_of, log_bytes}
use Rattle.logrun.specs.Progress.{running, ended_by, start_of, after_taken, text_taken, word_fed, word_text, words_fed, words_text, finished_of}
use Rattle.logrun.specs.Output.{lines_of, run_text, opening_text, output_of}
use Rattle.logrun.specs.InputLaws.{short-input}
use Rattle.logrun.specs.ProgressLaws.{fed-running, text-running, words-fed-ended, words-text-ended}
use Rattle.logrun.specs.Pieces.{Whole, last_line, pieces_text, AsRead, together}
use Rattle.logrun.proofs.PieceLaws.{pieces-fed, pieces-text, left_both, piece-goes, piece-ends, goes, stops-refused, stops-short}

-- a word's refusal is not 0
refused-some : (p : Pending) (w : ℕ) (n : Refusal) → (taken_of p w).taken ≡ Err n → eqb (refusal_number n) 0 ≡ false
refused-some p w n e = by (word-reason p w n e)
  where
    by : Reason p w n → eqb (refusal_number n) 0 ≡ false
    by (inl (h, r)) = rw h
    by (inr (h, r, o)) = rw h

-- what is printed from a place of the log on
abbrev pub rest_text : Progress → List ℕ → ℕ → List ℕ
rest_text p ws left = words_text p ws ++ end_line (end_number (finished_of (words_fed p ws) left))

-- .. is the lines of the log's events from there on, and its number
abbrev pub log_text : ℕ → State → Log → List ℕ
log_text count s log = lines_of count s log.events ++ end_line log.refusal

-- a run that has ended prints its end
ended-text : (p : Progress) (ws : List ℕ) (left : ℕ) → running p ≡ false → rest_text p ws left ≡ end_line (end_number (finished_of p left))
ended-text p ws left e = rw (words-text-ended p ws e, words-fed-ended p ws e)

-- .. whatever is left over
ended_same : (p : Progress) (left more : ℕ) → running p ≡ false → finished_of p left ≡ finished_of p more
unfolding finished_of
ended_same p left more e = by p.refusal e
  where
    by : (r : Option Refusal) → not (is_some r) ≡ false → ended_by r (end_of p.pending left) ≡ ended_by r (end_of p.pending more)
    by None e = cc
    by (Some refusal) e = refl

-- what a word gives takes the run further, where the words behind it do
run-taken : (p : Progress) (w : ℕ) (ws : List ℕ) (left : ℕ) (q : Pending) (t : Taken)
    → ((r : Progress) → r.refusal ≡ None → rest_text r ws left ≡ log_text r.count r.state (log_from r.pending ws left))
    → (taken_of p.pending w).taken ≡ t
    → text_taken p t ++ rest_text (after_taken p q t) ws left ≡ log_text p.count p.state (before t (log_from q ws left))
unfolding text_taken after_taken lines_of finished_of
run-taken p w ws left q (Ok (Some e)) behind t =
    ap (λ (x : List ℕ). event_line (next_count p.count) e (step_of p.state e) ++ x) (behind (after_taken p q (Ok (Some e))) refl) ∙ rw append_assoc
run-taken p w ws left q (Ok None) behind t = behind (after_taken p q (Ok None)) refl
run-taken p w ws left q (Err n) behind t = ended-text (after_taken p q (Err n)) ws left refl

-- one word, and what is printed behind it
rest-next : (p : Progress) (w : ℕ) (ws : List ℕ) (left : ℕ) → rest_text p (w ∷ ws) left ≡ word_text p w ++ rest_text (word_fed p w) ws left
unfolding words_text words_fed
rest-next p w ws left = append_assoc (word_text p w) (words_text (word_fed p w) ws) (end_line (end_number (finished_of (words_fed (word_fed p w) ws) left)))

rest-none : (p : Progress) (left : ℕ) → p.refusal ≡ None → rest_text p [] left ≡ end_line (end_number (end_of p.pending left))
unfolding words_text words_fed finished_of
rest-none p left h = rw h

-- the words from any place of the log on print the log's lines from there on
pub run-words : (p : Progress) (ws : List ℕ) (left : ℕ) → p.refusal ≡ None → rest_text p ws left ≡ log_text p.count p.state (log_from p.pending ws left)
unfolding lines_of
run-words p [] left h = rest-none p left h ∙ rw (log-end p.pending left)
run-words p (w ∷ ws) left h =
    let e : running p ≡ true = rw h in
    let s = taken_of p.pending w in
    rest-next p w ws left
    ∙ rw (text-running p w e, fed-running p w e, log-word p.pending w ws left)
    (run-taken p w ws left s.pending s.taken (λ r. run-words r ws left) refl)

-- a whole log
pub run-log : (s : State) (bytes : List ℕ) → rest_text (start_of s) (words_in bytes) (left_over bytes) ≡ log_text 0 s (log_of_bytes bytes)
unfolding log_of_bytes
run-log s bytes = run-words (start_of s) (words_in bytes) (left_over bytes) refl ∙ rw (log-start (words_in bytes) (left_over bytes))

-- ---- pieces

-- what is printed from a place of the log on, cut behind a piece of whole words
rest_both : (p : Progress) (a b : List ℕ) → Whole a
    → rest_text p (words_in (a ++ b)) (left_over (a ++ b)) ≡ words_text p (words_in a) ++ rest_text (words_fed p (words_in a)) (words_in b) (left_over b)
rest_both p a b h = rw (pieces-text p a b h, pieces-fed p a b h, left_both a b h, append_assoc)

-- a run that ends in a piece prints no more
rest_ended : (p : Progress) (a b : List ℕ) → Whole a → running (words_fed p (words_in a)) ≡ false
    → rest_text p (words_in (a ++ b)) (left_over (a ++ b)) ≡ words_text p (words_in a) ++ last_line p a
rest_ended p a b h e = rest_both p a b h ∙ rw (ended-text (words_fed p (words_in a)) (words_in b) (left_over b) e, ended_same (words_fed p (words_in a)) (left_over b) (left_over a) e)

-- a full piece, where the pieces behind it print what is left of the log
print-full : (full : ℕ) → full % 4 ≡ 0 → (p : Progress) (a : List ℕ) (more : List (List ℕ)) → length a ≡ full
    → pieces_text full (words_fed p (words_in a)) more ≡ rest_text (words_fed p (words_in a)) (words_in (together more)) (left_over (together more))
    → pieces_text full p (a ∷ more) ≡ rest_text p (words_in (a ++ together more)) (left_over (a ++ together more))
unfolding pieces_text
print-full full words p a more l behind = by (running (words_fed p (words_in a))) refl
  where
    whole : Whole a
    whole = rw l words

    by : (t : Bool) → running (words_fed p (words_in a)) ≡ t → pieces_text full p (a ∷ more) ≡ rest_text p (words_in (a ++ together more)) (left_over (a ++ together more))
    by true e = let g = goes full p a e (omega arith) in rw (g, piece-goes full p a g, behind) (sym (rest_both p a (together more) whole))
    by false e = let g = stops-refused full p a e in rw (g, piece-ends full p a g, append-nil) (sym (rest_ended p a (together more) whole e))

-- the pieces of a log, as it is read, print what the log prints
pub pieces-print : (full : ℕ) → full % 4 ≡ 0 → (p : Progress) (pieces : List (List ℕ)) → AsRead full pieces
    → pieces_text full p pieces ≡ rest_text p (words_in (together pieces)) (left_over (together pieces))
unfolding pieces_text
pieces-print full words p [] h = absurd h
pieces-print full words p (a ∷ []) h = let e = stops-short full p a h in rw (e, piece-ends full p a e) (simp append-nil)
pieces-print full words p (a ∷ (b ∷ more)) h = print-full full words p a (b ∷ more) h.0 (pieces-print full words (words_fed p (words_in a)) (b ∷ more) h.1)

-- the input's table and log, where the table has its 416 bytes
table-first : (table log : List ℕ) → length table ≡ table_bytes → table_of (table ++ log) ≡ table_of table
unfolding table_of
table-first table log h = rw (take_at table log table_bytes h, take_all table_bytes table (omega arith))

log-behind : (table log : List ℕ) → length table ≡ table_bytes → log_bytes (table ++ log) ≡ log
log-behind table log h = drop_at table log table_bytes h

-- a refusal that is not none is one
no-none : (r : Option LoadRefusal) → (r ≡ None → ⊥) → is_none r ≡ false
no-none None n = absurd (n refl)
no-none (Some r) n = refl

opening-loaded : (l : Loaded) → l.refusal ≡ None → opening_text l ≡ header_line
unfolding opening_text
opening-loaded l h = rw h

-- ---- THE LAW of panelrun: the table's 416 bytes, and the log in pieces as it is read into a room of whole words. Where the table loads, the header
-- and what the pieces print are the output; where it is refused, the load line is
module _ (table : List ℕ) (long : length table ≡ table_bytes) (full : ℕ) (words : full % 4 ≡ 0) (pieces : List (List ℕ)) (read : AsRead full pieces) where
  pub output-in-pieces : (loaded_of (table_of table)).refusal ≡ None
      → opening_text (loaded_of (table_of table)) ++ pieces_text full (start_of (loaded_of (table_of table)).state) pieces ≡ output_of (table ++ together pieces)
  unfolding output_of run_text
  output-in-pieces loads =
      let s = (loaded_of (table_of table)).state in
      rw (
        opening-loaded (loaded_of (table_of table)) loads,
        pieces-print full words (start_of s) pieces read,
        run-log s (together pieces),
        table-first table (together pieces) long,
        log-behind table (together pieces) long,
        loads,
      )
      (sym (append_assoc header_line (lines_of 0 s (log_of_bytes (together pieces)).events) (end_line (log_of_bytes (together pieces)).refusal)))

  pub output-refused : ((loaded_of (table_of table)).refusal ≡ None → ⊥) → opening_text (loaded_of (table_of table)) ≡ output_of (table ++ together pieces)
  unfolding output_of opening_text
  output-refused n = rw (table-first table (together pieces) long, no-none (loaded_of (table_of table)).refusal n)

-- an input that is shorter than a table
pub output-short : (input : List ℕ) → length input < table_bytes → opening_text (loaded_of (table_of input)) ≡ output_of input
unfolding output_of opening_text
output-short input h = rw (short-input input h)
