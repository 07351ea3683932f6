-- Two pieces of a log, the first of whole words, give what they give together; and what a piece prints, and how much.
use Rattle.std.specs.Prelude.{◌≡◌, refl, true, false, List, [], ◌∷◌, ◌++◌, ℕ, ◌*◌, ◌≤◌, ◌<◌, length}
use Rattle.std.proofs.Common.{ap, ◌∙◌, append_assoc, append-nil, arith, length-append}
use Rattle.std.proofs.Math.Bool.{and-false}
use borrow.Author.Tests.{le-leb, lt-leb}
use Rattle.events.specs.Words.{word_at}
use Rattle.events.specs.Bytes.{words_in, left_over}
use Rattle.logrun.specs.declared.Progress.{Progress}
use Rattle.lines.specs.LineLaws.{longest}
use Rattle.logrun.specs.InputLaws.{words-length}
use Rattle.logrun.specs.Pieces.{Whole, goes_on, last_line, piece_text}
use Rattle.logrun.specs.Progress.{running, word_fed, words_fed, words_text}
use Rattle.logrun.specs.ProgressLaws.{word-at-most}

-- ---- words
pub fed-both : (p : Progress) (a b : List ℕ) → words_fed p (a ++ b) ≡ words_fed (words_fed p a) b
unfolding words_fed
fed-both p [] b = refl
fed-both p (w ∷ a) b = fed-both (word_fed p w) a b

pub text-both : (p : Progress) (a b : List ℕ) → words_text p (a ++ b) ≡ words_text p a ++ words_text (words_fed p a) b
unfolding words_text words_fed
text-both p [] b = refl
text-both p (w ∷ a) b = rw (text-both (word_fed p w) a b, append_assoc)

-- ---- bytes

pub words-both : (a b : List ℕ) → Whole a → words_in (a ++ b) ≡ words_in a ++ words_in b
unfolding words_in
words-both [] b h = refl
words-both (w ∷ []) b h = absurd (omega arith)
words-both (w ∷ (x ∷ [])) b h = absurd (omega arith)
words-both (w ∷ (x ∷ (y ∷ []))) b h = absurd (omega arith)
words-both (w ∷ (x ∷ (y ∷ (z ∷ a)))) b h = ap (λ (ws : List ℕ). word_at w x y z ∷ ws) (words-both a b (omega arith))

pub left_both : (a b : List ℕ) → Whole a → left_over (a ++ b) ≡ left_over b
left_both a b h = rw length-append (omega arith)

-- feeding two pieces, one after the other, is feeding them together
pub pieces-fed : (p : Progress) (a b : List ℕ) → Whole a → words_fed p (words_in (a ++ b)) ≡ words_fed (words_fed p (words_in a)) (words_in b)
pieces-fed p a b h = ap (words_fed p) (words-both a b h) ∙ fed-both p (words_in a) (words_in b)

pub pieces-text : (p : Progress) (a b : List ℕ) → Whole a → words_text p (words_in (a ++ b)) ≡ words_text p (words_in a) ++ words_text (words_fed p (words_in a)) (words_in b)
pieces-text p a b h = ap (words_text p) (words-both a b h) ∙ text-both p (words_in a) (words_in b)

-- ---- what a piece prints

-- a piece in which the run ends prints its lines and the last line, one behind which it goes on only its lines
module _ (full : ℕ) (p : Progress) (a : List ℕ) where
  pub piece-ends : goes_on full p a ≡ false → piece_text full p a ≡ words_text p (words_in a) ++ last_line p a
  unfolding piece_text
  piece-ends e = rw e

  pub piece-goes : goes_on full p a ≡ true → piece_text full p a ≡ words_text p (words_in a)
  unfolding piece_text
  piece-goes e = rw (e, append-nil)

  -- full and without a refusal, refused, or not full
  pub goes : running (words_fed p (words_in a)) ≡ true → full ≤ length a → goes_on full p a ≡ true
  unfolding goes_on
  goes e h = rw (e, le-leb full (length a) h)

  pub stops-refused : running (words_fed p (words_in a)) ≡ false → goes_on full p a ≡ false
  unfolding goes_on
  stops-refused e = rw e

  pub stops-short : length a < full → goes_on full p a ≡ false
  unfolding goes_on
  stops-short h = rw (lt-leb full (length a) h, and-false)

-- 128 bytes a word, 32 a byte
words-at-most : (p : Progress) (ws : List ℕ) → length (words_text p ws) ≤ longest * length ws
unfolding words_text
words-at-most p [] = omega arith
words-at-most p (w ∷ ws) = rw length-append (omega (arith, word-at-most p w, words-at-most (word_fed p w) ws))

pub lines-at-most : (p : Progress) (a : List ℕ) → length (words_text p (words_in a)) ≤ 32 * length a
lines-at-most p a = omega (arith, words-at-most p (words_in a), words-length a)
