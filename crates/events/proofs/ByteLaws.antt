-- The words of a log's bytes, one after the other: at place i there is a word while four bytes are left, and none else.
use Rattle.std.specs.Prelude.{◌≡◌, refl, List, [], ◌∷◌, ◌++◌, ℕ, suc, ◌+◌, ◌≤◌, ◌<◌, length, get_or, drop}
use Rattle.std.proofs.Common.{ap, ◌∙◌, arith, length-drop, drop-cons}
use Rattle.events.specs.Words.{word_at}
use Rattle.events.specs.declared.Pending.{Pending}
use Rattle.events.specs.Log.{fresh_pending, taken_of, end_of, end_number, before, log_from}
use Rattle.events.proofs.LogLaws.{ends, log-word, log-end, log-start}
use Rattle.events.specs.Bytes.{words_in, left_over, log_of_bytes}

-- the word of the four bytes from place i on
abbrev pub word_from : List ℕ → ℕ → ℕ
word_from bytes i = word_at (get_or bytes i 0) (get_or bytes (i + 1) 0) (get_or bytes (i + 2) 0) (get_or bytes (i + 3) 0)

next-byte : (bytes : List ℕ) (i j : ℕ) → suc i ≡ j → i < length bytes → drop i bytes ≡ get_or bytes i 0 ∷ drop j bytes
next-byte bytes i j e h = drop-cons bytes i 0 h ∙ ap (λ (k : ℕ). get_or bytes i 0 ∷ drop k bytes) e

four : (bytes : List ℕ) (i : ℕ) → i + 4 ≤ length bytes
    → drop i bytes ≡ get_or bytes i 0 ∷ (get_or bytes (i + 1) 0 ∷ (get_or bytes (i + 2) 0 ∷ (get_or bytes (i + 3) 0 ∷ drop (i + 4) bytes)))
four bytes i h =
    next-byte bytes i (i + 1) (omega arith) (omega arith)
    ∙ ap (λ (l : List ℕ). get_or bytes i 0 ∷ l) (next-byte bytes (i + 1) (i + 2) (omega arith) (omega arith)
    ∙ ap (λ (l : List ℕ). get_or bytes (i + 1) 0 ∷ l) (next-byte bytes (i + 2) (i + 3) (omega arith) (omega arith)
    ∙ ap (λ (l : List ℕ). get_or bytes (i + 2) 0 ∷ l) (next-byte bytes (i + 3) (i + 4) (omega arith) (omega arith))))

pub words-next : (bytes : List ℕ) (i : ℕ) → i + 4 ≤ length bytes → words_in (drop i bytes) ≡ word_from bytes i ∷ words_in (drop (i + 4) bytes)
unfolding words_in
words-next bytes i h = ap words_in (four bytes i h)

-- four bytes in front of others are a word
pub word_front : (four bytes : List ℕ) → length four ≡ 4 → words_in (four ++ bytes) ≡ word_from four 0 ∷ words_in bytes
unfolding words_in
word_front [] bytes l = absurd (omega arith)
word_front (a ∷ []) bytes l = absurd (omega arith)
word_front (a ∷ (b ∷ [])) bytes l = absurd (omega arith)
word_front (a ∷ (b ∷ (c ∷ []))) bytes l = absurd (omega arith)
word_front (a ∷ (b ∷ (c ∷ (d ∷ [])))) bytes l = refl
word_front (a ∷ (b ∷ (c ∷ (d ∷ (e ∷ more))))) bytes l = absurd (omega arith)

pub few : (bytes : List ℕ) → length bytes < 4 → words_in bytes ≡ []
unfolding words_in
few [] h = refl
few (a ∷ []) h = refl
few (a ∷ (b ∷ [])) h = refl
few (a ∷ (b ∷ (c ∷ []))) h = refl
few (a ∷ (b ∷ (c ∷ (d ∷ bytes)))) h = absurd (omega arith)

pub words-done : (bytes : List ℕ) (i : ℕ) → length bytes < i + 4 → words_in (drop i bytes) ≡ []
words-done bytes i h = few (drop i bytes) (simp length-drop (omega arith))

-- ---- the log from byte i on
pub bytes-start : (bytes : List ℕ) → log_of_bytes bytes ≡ log_from fresh_pending (words_in (drop 0 bytes)) (left_over bytes)
unfolding log_of_bytes
bytes-start bytes = log-start (words_in bytes) (left_over bytes)

module _ (p : Pending) (bytes : List ℕ) (i left : ℕ) where
  pub bytes_next : i + 4 ≤ length bytes
      → log_from p (words_in (drop i bytes)) left ≡ before (taken_of p (word_from bytes i)).taken (log_from (taken_of p (word_from bytes i)).pending (words_in (drop (i + 4) bytes)) left)
  bytes_next h = ap (λ (ws : List ℕ). log_from p ws left) (words-next bytes i h) ∙ log-word p (word_from bytes i) (words_in (drop (i + 4) bytes)) left

  pub bytes-done : length bytes < i + 4 → log_from p (words_in (drop i bytes)) left ≡ ends (end_number (end_of p left))
  bytes-done h = ap (λ (ws : List ℕ). log_from p ws left) (words-done bytes i h) ∙ log-end p left
