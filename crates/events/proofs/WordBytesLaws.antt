-- Words as bytes and back: the bytes of words are read as these words, and whole words are written as their bytes.
use Rattle.std.specs.Prelude.{◌≡◌, refl, List, [], ◌∷◌, ◌++◌, ℕ, zero, suc, ◌*◌, ◌/◌, ◌%◌, ◌^◌, ◌<◌, length}
use Rattle.std.proofs.Common.{ap, ap₂, ◌∙◌, arith}
use Rattle.events.specs.Bytes.{words_in, least_first, bytes_of, AllBytes}
use Rattle.events.specs.Words.{word_at}
use Rattle.events.specs.Written.{AllWords}

-- ---- THE BYTES OF WORDS ARE READ AS THESE WORDS
word_bytes : (w : ℕ) → w < 2 ^ 32 → word_at (w % 256) (w / 256 % 256) (w / 65536 % 256) (w / 16777216) ≡ w
word_bytes w h = omega arith

-- and what lies behind them is read as it would be by itself
pub bytes-words : (ws bytes : List ℕ) → AllWords ws → words_in (bytes_of ws ++ bytes) ≡ ws ++ words_in bytes
unfolding words_in bytes_of
bytes-words [] bytes a = refl
bytes-words (w ∷ ws) bytes a = ap₂ (λ (x : ℕ) (l : List ℕ). x ∷ l) (word_bytes w a.0) (bytes-words ws bytes a.1)

pub bytes-length : (ws : List ℕ) → length (bytes_of ws) ≡ 4 * length ws
unfolding bytes_of
bytes-length [] = refl
bytes-length (w ∷ ws) = omega (arith, bytes-length ws)

pub bytes-more : (ws : List ℕ) (w : ℕ) → bytes_of (ws ++ (w ∷ [])) ≡ bytes_of ws ++ least_first w
unfolding bytes_of
bytes-more [] w = refl
bytes-more (v ∷ ws) w = ap (λ (l : List ℕ). least_first v ++ l) (bytes-more ws w)

-- ---- WHOLE WORDS ARE WRITTEN AS THEIR BYTES
pub words-bytes : (k : ℕ) (bytes : List ℕ) → length bytes ≡ 4 * k → AllBytes bytes → bytes_of (words_in bytes) ≡ bytes
unfolding words_in bytes_of
words-bytes zero [] l h = refl
words-bytes zero (a ∷ bytes) l h = absurd (omega arith)
words-bytes (suc k) [] l h = absurd (omega arith)
words-bytes (suc k) (a ∷ []) l h = absurd (omega arith)
words-bytes (suc k) (a ∷ (b ∷ [])) l h = absurd (omega arith)
words-bytes (suc k) (a ∷ (b ∷ (c ∷ []))) l h = absurd (omega arith)
words-bytes (suc k) (a ∷ (b ∷ (c ∷ (d ∷ bytes)))) l h =
    ap₂ (λ (x y : ℕ). x ∷ (y ∷ (w / 65536 % 256 ∷ (w / 16777216 ∷ bytes_of (words_in bytes))))) (omega arith) (omega arith)
    ∙ ap₂ (λ (x y : ℕ). a ∷ (b ∷ (x ∷ (y ∷ bytes_of (words_in bytes))))) (omega arith) (omega arith)
    ∙ ap (λ (r : List ℕ). a ∷ (b ∷ (c ∷ (d ∷ r)))) (words-bytes k bytes (omega arith) h.1.1.1.1)
  where
    w : ℕ
    w = word_at a b c d

-- words of bytes that end with a word
pub words_append : (k : ℕ) (bytes more : List ℕ) → length bytes ≡ 4 * k → words_in (bytes ++ more) ≡ words_in bytes ++ words_in more
unfolding words_in
words_append zero [] more l = refl
words_append zero (a ∷ bytes) more l = absurd (omega arith)
words_append (suc k) [] more l = absurd (omega arith)
words_append (suc k) (a ∷ []) more l = absurd (omega arith)
words_append (suc k) (a ∷ (b ∷ [])) more l = absurd (omega arith)
words_append (suc k) (a ∷ (b ∷ (c ∷ []))) more l = absurd (omega arith)
words_append (suc k) (a ∷ (b ∷ (c ∷ (d ∷ bytes)))) more l = ap (λ (r : List ℕ). word_at a b c d ∷ r) (words_append k bytes more (omega arith))

pub words_count : (bytes : List ℕ) → length (words_in bytes) ≡ length bytes / 4
unfolding words_in
words_count [] = refl
words_count (a ∷ []) = refl
words_count (a ∷ (b ∷ [])) = refl
words_count (a ∷ (b ∷ (c ∷ []))) = refl
words_count (a ∷ (b ∷ (c ∷ (d ∷ bytes)))) = omega (arith, words_count bytes)

-- words of bytes are words of 32 bits
pub words_small : (bytes : List ℕ) → AllBytes bytes → AllWords (words_in bytes)
unfolding words_in
words_small [] h = tt
words_small (a ∷ []) h = tt
words_small (a ∷ (b ∷ [])) h = tt
words_small (a ∷ (b ∷ (c ∷ []))) h = tt
words_small (a ∷ (b ∷ (c ∷ (d ∷ bytes)))) h =
    let ha = h.0 in
    let hb = h.1.0 in
    let hc = h.1.1.0 in
    let hd = h.1.1.1.0 in
    (omega arith, words_small bytes h.1.1.1.1)
