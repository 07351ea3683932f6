-- The first word and what stands behind it are the first of a text's words and the others.
use Rattle.std.specs.Prelude.{◌≡◌, refl, Bool, true, false, cond, List, [], ◌∷◌, ℕ, suc, ◌+◌, ◌-◌, ◌≤◌, ◌<◌, eqb, length, take, drop}
use Rattle.std.proofs.Common.{sym, ap, ◌∙◌, arith, length-drop, drop-drop, length-take-le, take_all}
use Rattle.text.specs.Marks.{space}
use Rattle.text.specs.Words.{onto, parts_of, filled, words_of, only_of, first_of, others_of}
use Rattle.text.specs.WordSteps.{unspaced_of, word_length, word_of, rest_of}

-- ---- spaces in front do not matter
pub unspaced-words : (s : List ℕ) → words_of (unspaced_of s) ≡ words_of s
unfolding words_of parts_of unspaced_of
unspaced-words [] = refl
unspaced-words (b ∷ s) = by (eqb b space) refl (unspaced-words s)
  where
    by : (t : Bool) → eqb b space ≡ t → words_of (unspaced_of s) ≡ words_of s → filled (parts_of (cond t (unspaced_of s) (b ∷ s))) ≡ filled (cond t ([] ∷ parts_of s) (onto b (parts_of s)))
    by true e ih = ih
    by false e ih = rw e

-- ---- a text up to its first space
-- the parts behind the first: none at the end, else those behind a space
abbrev behind : List ℕ → List (List ℕ)
behind [] = []
behind (b ∷ s) = parts_of s

parts-split : (s : List ℕ) → parts_of s ≡ take (word_length s) s ∷ behind (drop (word_length s) s)
unfolding parts_of word_length
parts-split [] = refl
parts-split (b ∷ s) = by (eqb b space) (parts-split s)
  where
    by : (t : Bool) → parts_of s ≡ take (word_length s) s ∷ behind (drop (word_length s) s)
        → cond t ([] ∷ parts_of s) (onto b (parts_of s)) ≡ take (cond t 0 (suc (word_length s))) (b ∷ s) ∷ behind (drop (cond t 0 (suc (word_length s))) (b ∷ s))
    by true ih = refl
    by false ih = ap (onto b) ih

-- what stands there begins with a space or is nothing: its words are those behind
behind-words : (s : List ℕ) → filled (behind (drop (word_length s) s)) ≡ words_of (drop (word_length s) s)
unfolding words_of parts_of word_length
behind-words [] = refl
behind-words (b ∷ s) = by (eqb b space) refl (behind-words s)
  where
    by : (t : Bool) → eqb b space ≡ t → filled (behind (drop (word_length s) s)) ≡ words_of (drop (word_length s) s)
        → filled (behind (drop (cond t 0 (suc (word_length s))) (b ∷ s))) ≡ words_of (drop (cond t 0 (suc (word_length s))) (b ∷ s))
    by true e ih = rw e
    by false e ih = ih

-- THE FIRST WORD, IF ANY, AND THE WORDS OF THE REST
pub words-first : (s : List ℕ) → words_of s ≡ filled (word_of s ∷ parts_of (rest_of s))
unfolding word_of rest_of words_of
words-first s = sym (unspaced-words s) ∙ split (unspaced_of s)
  where
    both : (w : List ℕ) (x y : List (List ℕ)) → filled x ≡ filled y → filled (w ∷ x) ≡ filled (w ∷ y)
    both [] x y e = e
    both (b ∷ w) x y e = ap (λ (l : List (List ℕ)). (b ∷ w) ∷ l) e

    split : (t : List ℕ) → words_of t ≡ filled (take (word_length t) t ∷ parts_of (drop (word_length t) t))
    split t = ap filled (parts-split t) ∙ both (take (word_length t) t) (behind (drop (word_length t) t)) (parts_of (drop (word_length t) t)) (behind-words t)

-- no first word: no words
pub no_word : (s : List ℕ) → length (word_of s) ≡ 0 → words_of s ≡ []
unfolding words_of parts_of word_of unspaced_of word_length
no_word [] e = refl
no_word (b ∷ s) e = by (eqb b space) refl (no_word s) e
  where
    by : (t : Bool) → eqb b space ≡ t → (length (word_of s) ≡ 0 → words_of s ≡ []) → length (take (word_length (cond t (unspaced_of s) (b ∷ s))) (cond t (unspaced_of s) (b ∷ s))) ≡ 0
        → filled (cond t ([] ∷ parts_of s) (onto b (parts_of s))) ≡ []
    by true q ih e = ih e
    by false q ih e = absurd (omega (arith, rw q at e))

-- a first word: it and the words of the rest
pub some_word : (s : List ℕ) → 0 < length (word_of s) → words_of s ≡ word_of s ∷ words_of (rest_of s)
unfolding words_of
some_word s h = words-first s ∙ by (word_of s) h
  where
    by : (w : List ℕ) → 0 < length w → filled (w ∷ parts_of (rest_of s)) ≡ w ∷ words_of (rest_of s)
    by [] h = absurd (omega arith)
    by (b ∷ w) h = refl

-- no first word: only spaces, and nothing behind it
blank : (s : List ℕ) → length (word_of s) ≡ 0 → unspaced_of s ≡ []
unfolding word_of unspaced_of word_length
blank [] e = refl
blank (b ∷ s) e = by (eqb b space) refl (blank s) e
  where
    by : (t : Bool) → eqb b space ≡ t → (length (word_of s) ≡ 0 → unspaced_of s ≡ []) → length (take (word_length (cond t (unspaced_of s) (b ∷ s))) (cond t (unspaced_of s) (b ∷ s))) ≡ 0
        → cond t (unspaced_of s) (b ∷ s) ≡ []
    by true q ih e = ih e
    by false q ih e = absurd (omega (arith, rw q at e))

pub rest-none : (s : List ℕ) → length (word_of s) ≡ 0 → length (word_of (rest_of s)) ≡ 0
unfolding word_of rest_of unspaced_of word_length
rest-none s e = rw (blank s e)

-- ---- the only word
-- no word behind the first: it is the only one, or there is none at all
pub only_one : (s : List ℕ) → length (word_of (rest_of s)) ≡ 0 → only_of (words_of s) ≡ word_of s
unfolding words_of
only_one s e = ap only_of (words-first s) ∙ by (word_of s) (no_word (rest_of s) e)
  where
    by : (w : List ℕ) → words_of (rest_of s) ≡ [] → only_of (filled (w ∷ parts_of (rest_of s))) ≡ w
    by [] e = ap only_of e
    by (b ∷ w) e = ap (λ (l : List (List ℕ)). only_of ((b ∷ w) ∷ l)) e

-- a word behind the first: there is no only one
pub only_none : (s : List ℕ) → 0 < length (word_of (rest_of s)) → only_of (words_of s) ≡ []
only_none s h = by (word_of s) refl
  where
    by : (w : List ℕ) → word_of s ≡ w → only_of (words_of s) ≡ []
    by [] e = absurd (omega (arith, rest-none s (ap length e)))
    by (b ∷ w) e = rw (some_word s (rw e (omega arith)), some_word (rest_of s) h)

-- ---- the words taken apart
pub first-of : (s : List ℕ) → first_of (words_of s) ≡ word_of s
first-of s = by (word_of s) refl
  where
    by : (w : List ℕ) → word_of s ≡ w → first_of (words_of s) ≡ word_of s
    by [] e = rw (no_word s (ap length e), e)
    by (b ∷ w) e = rw (some_word s (rw e (omega arith)))

pub others-of : (s : List ℕ) → others_of (words_of s) ≡ words_of (rest_of s)
others-of s = by (word_of s) refl
  where
    by : (w : List ℕ) → word_of s ≡ w → others_of (words_of s) ≡ words_of (rest_of s)
    by [] e = rw (no_word s (ap length e), no_word (rest_of s) (rest-none s (ap length e)))
    by (b ∷ w) e = rw (some_word s (rw e (omega arith)))

-- ---- what stands behind the first word is the end of the text
pub word-within : (s : List ℕ) → word_length s ≤ length s
unfolding word_length
word-within [] = omega arith
word-within (b ∷ s) = by (eqb b space) (word-within s)
  where
    by : (t : Bool) → word_length s ≤ length s → cond t 0 (suc (word_length s)) ≤ suc (length s)
    by true h = omega arith
    by false h = omega arith

unspaced-within : (s : List ℕ) → length (unspaced_of s) ≤ length s
unfolding unspaced_of
unspaced-within [] = omega arith
unspaced-within (b ∷ s) = by (eqb b space) (unspaced-within s)
  where
    by : (t : Bool) → length (unspaced_of s) ≤ length s → length (cond t (unspaced_of s) (b ∷ s)) ≤ suc (length s)
    by true h = omega arith
    by false h = omega arith

unspaced-end : (s : List ℕ) → drop (length s - length (unspaced_of s)) s ≡ unspaced_of s
unfolding unspaced_of
unspaced-end [] = refl
unspaced-end (b ∷ s) = by (eqb b space) (unspaced-end s)
  where
    by : (t : Bool) → drop (length s - length (unspaced_of s)) s ≡ unspaced_of s
        → drop (suc (length s) - length (cond t (unspaced_of s) (b ∷ s))) (b ∷ s) ≡ cond t (unspaced_of s) (b ∷ s)
    by true ih =
        let n : suc (length s) - length (unspaced_of s) ≡ suc (length s - length (unspaced_of s)) = omega (arith, unspaced-within s) in
        rw n ih
    by false ih =
        let n : suc (length s) - suc (length s) ≡ 0 = omega arith in
        rw n

pub rest_end : (s : List ℕ) → drop (length s - length (rest_of s)) s ≡ rest_of s
unfolding rest_of
rest_end s =
    let u = unspaced_of s in
    let n = word_length u in
    let d = length-drop n u in
    let e : length s - length (drop n u) ≡ (length s - length u) + n = omega (arith, unspaced-within s, word-within u) in
    rw e (sym (drop-drop n (length s - length u) s) ∙ ap (drop n) (unspaced-end s))

pub rest-within : (s : List ℕ) → length (rest_of s) ≤ length s
unfolding rest_of
rest-within s = rw length-drop (omega (arith, unspaced-within s))

pub rest-shorter : (s : List ℕ) → 0 < length (word_of s) → length (rest_of s) < length s
unfolding rest_of word_of
rest-shorter s h =
    let u = unspaced_of s in
    let t = length-take-le (word_length u) u (word-within u) in
    rw length-drop (omega (arith, unspaced-within s, word-within u))

-- no more words than bytes
pub words-few : (s : List ℕ) → length (words_of s) ≤ length s
unfolding words_of parts_of
words-few [] = omega arith
words-few (b ∷ s) = by (eqb b space) (parts_of s) (words-few s)
  where
    fewer : (p : List ℕ) (ps : List (List ℕ)) → length (filled ps) ≤ length (filled (p ∷ ps))
    fewer [] ps = omega arith
    fewer (c ∷ p) ps = omega arith

    by : (t : Bool) (ps : List (List ℕ)) → length (filled ps) ≤ length s → length (filled (cond t ([] ∷ ps) (onto b ps))) ≤ suc (length s)
    by true ps h = omega arith
    by false [] h = omega arith
    by false (p ∷ ps) h = omega (arith, fewer p ps)

-- ---- the part of a text from a place on
pub part-all : (s : List ℕ) (n : ℕ) → take (length s - n) (drop n s) ≡ drop n s
part-all s n = take_all (length s - n) (drop n s) (omega (arith, length-drop n s))

-- the text goes on behind its first word
pub go_on : (t r : List ℕ) → r ≡ rest_of t → take (length t - (length t - length r)) (drop (length t - length r) t) ≡ rest_of t
go_on t r e = part-all t (length t - length r) ∙ rw e (rest_end t)
