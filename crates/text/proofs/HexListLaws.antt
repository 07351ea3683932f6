-- Words that are hex numbers: as many numbers as words; and whether words are hex numbers is told by what is left, behind n of them that are.
use Rattle.std.specs.Prelude.{◌≡◌, refl, Bool, true, false, ◌&&◌, List, [], ◌∷◌, ℕ, suc, ◌+◌, ◌≤◌, ◌<◌, leb, length}
use Rattle.std.proofs.Common.{sym, ap, ◌∙◌, arith, le-leb}
use Rattle.std.proofs.lemmas.Bool.{lt-leb}
use Rattle.integers.specs.TestLaws.{and-false}
use Rattle.text.specs.Words.{words_of, first_of, others_of}
use Rattle.text.specs.Hex.{is_hex}
use Rattle.text.specs.HexList.{all_hex_words, are_hex, hexes_of}
use Rattle.text.specs.WordSteps.{word_of, rest_of}
use Rattle.text.specs.WordLaws.{no_word, some_word, first-of, others-of}

pub hexes-length : (ws : List (List ℕ)) → length (hexes_of ws) ≡ length ws
unfolding hexes_of
hexes-length [] = refl
hexes-length (w ∷ ws) = ap suc (hexes-length ws)

-- a text whose words are one and others: it begins with that word, and the others stand behind it
pub taken : (s w : List ℕ) (ws : List (List ℕ)) → words_of s ≡ w ∷ ws → (0 < length (word_of s)) × (word_of s ≡ w) × (words_of (rest_of s) ≡ ws)
taken s w ws e = (by (word_of s) refl, sym (first-of s) ∙ ap first_of e, sym (others-of s) ∙ ap others_of e)
  where
    by : (v : List ℕ) → word_of s ≡ v → 0 < length v
    by [] n = absurd (cc (e, no_word s (ap length n)))
    by (b ∷ v) n = omega arith

module _ (count least most : ℕ) where
  unfoldable pub hex_from : ℕ → List (List ℕ) → Bool
  hex_from n ws = leb (n + length ws) count && all_hex_words least most ws

  pub hex-start : (ws : List (List ℕ)) → hex_from 0 ws ≡ are_hex count least most ws
  unfolding hex_from are_hex
  hex-start ws = let e : 0 + length ws ≡ length ws = omega arith in rw e

  pub hex-end : (n : ℕ) (s : List ℕ) → n ≤ count → length (word_of s) ≡ 0 → hex_from n (words_of s) ≡ true
  unfolding hex_from all_hex_words
  hex-end n s h e = rw (no_word s e, le-leb (n + 0) count (omega arith))

  pub hex-over : (s : List ℕ) → 0 < length (word_of s) → hex_from count (words_of s) ≡ false
  unfolding hex_from
  hex-over s h = rw (some_word s h, lt-leb (count + suc (length (words_of (rest_of s)))) count (omega arith))

  pub hex-other : (n : ℕ) (s : List ℕ) → 0 < length (word_of s) → is_hex least most (word_of s) ≡ false → hex_from n (words_of s) ≡ false
  unfolding hex_from all_hex_words
  hex-other n s h e = rw (some_word s h, e, and-false)

  pub hex-next : (n : ℕ) (s : List ℕ) → 0 < length (word_of s) → is_hex least most (word_of s) ≡ true → hex_from (n + 1) (words_of (rest_of s)) ≡ hex_from n (words_of s)
  unfolding hex_from all_hex_words
  hex-next n s h e =
      let m : n + 1 + length (words_of (rest_of s)) ≡ n + suc (length (words_of (rest_of s))) = omega arith in
      rw (some_word s h, e, m)
