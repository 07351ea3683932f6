-- Laws of one word and of the words of a piece: a run stays valid, a word prints at most one line, and a refusal ends the run.
use Rattle.std.specs.Prelude.{◌≡◌, refl, Bool, true, false, cond, List, [], ◌∷◌, ◌++◌, ℕ, ◌≤◌, ◌<◌, length, Some, None, Ok, Err}
use Rattle.std.proofs.Math.Path.{ap}
use Rattle.std.proofs.Common.{◌∙◌, arith}
use Rattle.events.specs.declared.Pending.{Pending}
use Rattle.events.specs.declared.AfterWord.{AfterWord}
use Rattle.events.specs.Bytes.{words_in}
use Rattle.events.proofs.ByteLaws.{word_from, word_front, few}
use Rattle.events.specs.Log.{Taken, taken_of}
use Rattle.lines.specs.Lines.{next_count}
use Rattle.lines.specs.CountLaws.{next_count-range}
use Rattle.lines.specs.LineLaws.{longest, event-line-at-most}
use Rattle.panel.specs.Step.{step_of}
use Rattle.panel.proofs.ValidLaws.{good-step}
use Rattle.logrun.specs.declared.Progress.{Progress}
use Rattle.logrun.specs.Progress.{running, after_taken, text_taken, word_fed, word_text, words_fed, words_text, Ready}

-- ---- one word
pub taken-ready : {p : Progress} → Ready p → (q : Pending) (t : Taken) → Ready (after_taken p q t)
unfolding after_taken
taken-ready {p} r q (Ok (Some e)) = record { state = good-step r.state e; count = next_count-range p.count r.count }
taken-ready r q (Ok None) = record { state = r.state; count = r.count }
taken-ready r q (Err n) = record { state = r.state; count = r.count }

pub word-ready : {p : Progress} → Ready p → (w : ℕ) → Ready (word_fed p w)
unfolding word_fed
word-ready {p} r w = by (running p)
  where
    by : (b : Bool) → Ready (cond b (after_taken p (taken_of p.pending w).pending (taken_of p.pending w).taken) p)
    by true = taken-ready r (taken_of p.pending w).pending (taken_of p.pending w).taken
    by false = r

pub taken-at-most : (p : Progress) (t : Taken) → length (text_taken p t) ≤ longest
unfolding text_taken
taken-at-most p (Ok (Some e)) = event-line-at-most (next_count p.count) e (step_of p.state e)
taken-at-most p (Ok None) = omega arith
taken-at-most p (Err n) = omega arith

pub word-at-most : (p : Progress) (w : ℕ) → length (word_text p w) ≤ longest
unfolding word_text
word-at-most p w = by (running p)
  where
    by : (b : Bool) → length (cond b (text_taken p (taken_of p.pending w).taken) []) ≤ longest
    by true = taken-at-most p (taken_of p.pending w).taken
    by false = omega arith

-- a word that is looked at, and a word behind a refusal
module _ (p : Progress) (w : ℕ) where
  pub fed-running : running p ≡ true → word_fed p w ≡ after_taken p (taken_of p.pending w).pending (taken_of p.pending w).taken
  unfolding word_fed
  fed-running e = rw e

  pub text-running : running p ≡ true → word_text p w ≡ text_taken p (taken_of p.pending w).taken
  unfolding word_text
  text-running e = rw e

  pub fed-ended : running p ≡ false → word_fed p w ≡ p
  unfolding word_fed
  fed-ended e = rw e

  pub text-ended : running p ≡ false → word_text p w ≡ []
  unfolding word_text
  text-ended e = rw e

-- .. by the answer s to it, which gives t
module _ (p : Progress) (w : ℕ) (s : AfterWord) (t : Taken) (runs : running p ≡ true) (is : s ≡ taken_of p.pending w) (gives : s.taken ≡ t) where
  pub fed_by : word_fed p w ≡ after_taken p s.pending t
  fed_by = fed-running p w runs ∙ rw (← is, gives)

  pub text-by : word_text p w ≡ text_taken p t
  text-by = text-running p w runs ∙ rw (← is, gives)

-- ---- the words of a piece
pub words-ready : {p : Progress} → Ready p → (ws : List ℕ) → Ready (words_fed p ws)
unfolding words_fed
words-ready {p = p} r [] = r
words-ready {p = p} r (w ∷ ws) = words-ready {p = word_fed p w} (word-ready r w) ws

-- nothing happens behind a refusal
pub words-fed-ended : (p : Progress) (ws : List ℕ) → running p ≡ false → words_fed p ws ≡ p
unfolding words_fed
words-fed-ended p [] e = refl
words-fed-ended p (w ∷ ws) e = rw (fed-ended p w e) (words-fed-ended p ws e)

pub words-text-ended : (p : Progress) (ws : List ℕ) → running p ≡ false → words_text p ws ≡ []
unfolding words_text
words-text-ended p [] e = refl
words-text-ended p (w ∷ ws) e = rw (text-ended p w e, fed-ended p w e) (words-text-ended p ws e)

-- ---- at some place of a piece
module _ (p : Progress) (rest : List ℕ) where
  -- there are four bytes, a word, and more
  module _ (four more : List ℕ) (parted : rest ≡ four ++ more) (long : length four ≡ 4) where
    pub fed-next : words_fed p (words_in rest) ≡ words_fed (word_fed p (word_from four 0)) (words_in more)
    unfolding words_fed
    fed-next = ap (λ (l : List ℕ). words_fed p (words_in l)) parted ∙ ap (words_fed p) (word_front four more long)

    pub text-next : words_text p (words_in rest) ≡ word_text p (word_from four 0) ++ words_text (word_fed p (word_from four 0)) (words_in more)
    unfolding words_text
    text-next = ap (λ (l : List ℕ). words_text p (words_in l)) parted ∙ ap (words_text p) (word_front four more long)

  -- there is none
  pub fed-done : length rest < 4 → words_fed p (words_in rest) ≡ p
  unfolding words_fed
  fed-done h = ap (words_fed p) (few rest h)

  pub text-done : length rest < 4 → words_text p (words_in rest) ≡ []
  unfolding words_text
  text-done h = ap (words_text p) (few rest h)
