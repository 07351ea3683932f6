-- Every event is the event of its word, so a list of words can be any list of events. Assumes nothing.
use Rattle.std.specs.Prelude.{◌≡◌, List, ℕ, ◌+◌, ◌/◌, ◌%◌, ◌<◌, ◌≤◌, length, get_or, drop}
use Rattle.std.proofs.Common.{ap, add-one, arith, eq-eqb, drop_of_length-le}
use Rattle.std.proofs.Math.Seq.{drop-cons}
use Rattle.events.specs.declared.Event.{Event}
use Rattle.events.specs.declared.Event.TheVariants.{Telegram, Levels, Tick}
use Rattle.panel.specs.declared.Answer.{Answer}
use Rattle.panel.specs.Step.{step_of}
use Rattle.runs.specs.Run.{answers_of, last_of}
use Rattle.runs.specs.Words.{event_of, events_in, word_of, Held}

pub word_back : (e : Event) → Held e → event_of (word_of e) ≡ e
unfolding event_of
word_back (Tick ms) h =
    let k : ms / 4294967296 ≡ 0 = omega arith in
    let r : ms % 65536 ≡ ms = omega arith in
    rw (eq-eqb (ms / 4294967296) 0 k) (ap Tick r)
word_back (Levels l) h =
    let k : (4294967296 + l) / 4294967296 ≡ 1 = omega arith in
    let r : (4294967296 + l) % 256 ≡ l = omega arith in
    rw k (ap Levels r)
word_back (Telegram w) h =
    let k : (8589934592 + w) / 4294967296 ≡ 2 = omega arith in
    let r : (8589934592 + w) % 4294967296 ≡ w = omega arith in
    rw k (ap Telegram r)

-- one more word of a list, and the end
module _ (a : Answer) (ws : List ℕ) (i : ℕ) where
  pub words_more : i < length ws → last_of a (answers_of a.state (events_in (drop i ws)))
      ≡ last_of (step_of a.state (event_of (get_or ws i 0))) (answers_of (step_of a.state (event_of (get_or ws i 0))).state (events_in (drop (i + 1) ws)))
  unfolding last_of answers_of events_in
  words_more h = rw (add-one, drop-cons ws i 0 h)

  pub words-end : length ws ≤ i → last_of a (answers_of a.state (events_in (drop i ws))) ≡ a
  unfolding last_of answers_of events_in
  words-end h = rw (drop_of_length-le ws h)
