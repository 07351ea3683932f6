-- What the loops of `words_of` and `put_words` do to their lists, one word more at a time.
use Rattle.std.specs.Prelude.{◌≡◌, refl, List, [], ◌∷◌, ◌++◌, ℕ, suc, ◌+◌, ◌-◌, ◌*◌, ◌<◌, length, get_or, take, drop, set}
use Rattle.std.proofs.Common.{sym, ap, ap₂, ◌∙◌, append_assoc, add-one, arith, length-append, length-drop, take-suc, take-suc-set, take_at, drop_at, drop-drop, length-take-le}
use Rattle.std.proofs.lemmas.List.Edits.{sets, sets-eq}
use Rattle.std.proofs.Math.Seq.{append_snoc}
use Rattle.events.specs.Bytes.{words_in, least_first, bytes_of}
use Rattle.events.proofs.ByteLaws.{word_from, word_front}
use Rattle.events.proofs.WordBytesLaws.{bytes-length, bytes-more}

-- ---- words read: those that are stored, and those of the chunks that are left
module _ (all words rest chunk more : List ℕ) (k w : ℕ) (inv : all ≡ take k words ++ words_in rest) (h : k < length words) where
  pub words_more : rest ≡ chunk ++ more → length chunk ≡ 4 → w ≡ word_from chunk 0 → all ≡ take (k + 1) (set words k w) ++ words_in more
  words_more parted four is =
      inv ∙ ap (λ (r : List ℕ). take k words ++ r) (ap words_in parted ∙ word_front chunk more four ∙ ap (λ (v : ℕ). v ∷ words_in more) (sym is))
      ∙ sym (append_snoc (take k words) w (words_in more))
      ∙ ap (λ (r : List ℕ). r ++ words_in more) (sym (take-suc-set words k w h) ∙ ap (λ (n : ℕ). take n (set words k w)) (sym (add-one k)))

-- ---- bytes written: those of the words before, and what was there behind them
-- four bytes of a list at i
four : (d : List ℕ) (i a b c e : ℕ) → set (set (set (set d i a) (i + 1) b) (i + 2) c) (i + 3) e ≡ sets d i (a ∷ (b ∷ (c ∷ (e ∷ []))))
four d i a b c e =
    let two : i + 2 ≡ suc (suc i) = omega arith in
    let three : i + 3 ≡ suc (suc (suc i)) = omega arith in
    ap (λ (n : ℕ). set (set (set (set d i a) n b) (i + 2) c) (i + 3) e) (add-one i)
    ∙ ap₂ (λ (m n : ℕ). set (set (set (set d i a) (suc i) b) m c) n e) two three

module _ (words old now : List ℕ) (k : ℕ) (h : k < length words) (l : length old ≡ 4 * length words) (inv : now ≡ bytes_of (take k words) ++ drop (4 * k) old) where
  before : length (bytes_of (take k words)) ≡ 4 * k
  before = bytes-length (take k words) ∙ ap (λ (n : ℕ). 4 * n) (length-take-le k words (omega arith))

  now-length : length now ≡ length old
  now-length =
      let d : length (drop (4 * k) old) ≡ length old - 4 * k = length-drop (4 * k) old in
      let b : length (bytes_of (take k words)) ≡ 4 * k = before in
      ap length inv ∙ length-append (bytes_of (take k words)) (drop (4 * k) old) ∙ (omega arith)

  behind : drop (4 * k + 4) now ≡ drop (4 * (k + 1)) old
  behind =
      let next : 4 * k + 4 ≡ 4 * (k + 1) = omega arith in
      sym (drop-drop 4 (4 * k) now)
      ∙ ap (drop 4) (ap (drop (4 * k)) inv ∙ drop_at (bytes_of (take k words)) (drop (4 * k) old) (4 * k) before)
      ∙ drop-drop 4 (4 * k) old ∙ ap (λ (n : ℕ). drop n old) next

  bytes_next : (w : ℕ) → w ≡ get_or words k 0 → bytes_of (take k words) ++ least_first w ≡ bytes_of (take (k + 1) words)
  bytes_next w e =
      sym (bytes-more (take k words) w)
      ∙ ap bytes_of (ap (λ (x : ℕ). take k words ++ (x ∷ [])) e ∙ sym (take-suc words k 0 h) ∙ ap (λ (n : ℕ). take n words) (sym (add-one k)))

  pub put-more : (b : List ℕ) → b ≡ least_first (get_or words k 0)
      → set (set (set (set now (4 * k) (get_or b 0 0)) (4 * k + 1) (get_or b 1 0)) (4 * k + 2) (get_or b 2 0)) (4 * k + 3) (get_or b 3 0)
      ≡ bytes_of (take (k + 1) words) ++ drop (4 * (k + 1)) old
  put-more b e =
      let w : ℕ = get_or words k 0 in
      let n : length now ≡ length old = now-length in
      ap (λ (x : List ℕ). set (set (set (set now (4 * k) (get_or x 0 0)) (4 * k + 1) (get_or x 1 0)) (4 * k + 2) (get_or x 2 0)) (4 * k + 3) (get_or x 3 0)) e
      ∙ four now (4 * k) (get_or (least_first w) 0 0) (get_or (least_first w) 1 0) (get_or (least_first w) 2 0) (get_or (least_first w) 3 0)
      ∙ sets-eq (least_first w) now (4 * k) (omega arith)
      ∙ ap₂ (λ (x y : List ℕ). x ++ least_first w ++ y)
      (ap (take (4 * k)) inv ∙ take_at (bytes_of (take k words)) (drop (4 * k) old) (4 * k) before) behind
      ∙ ap (λ (x : List ℕ). x ++ drop (4 * (k + 1)) old) (bytes_next w refl)

  -- the same, with the four bytes stored as one piece
  pub put-chunk : (b : List ℕ) (n : ℕ) → n ≡ 4 → b ≡ least_first (get_or words k 0)
      → take (4 * k) now ++ (b ++ drop n (drop (4 * k) now)) ≡ bytes_of (take (k + 1) words) ++ drop (4 * (k + 1)) old
  put-chunk b n four_long is =
      let w : ℕ = get_or words k 0 in
      ap₂ (λ (x y : List ℕ). x ++ (b ++ y))
      (ap (take (4 * k)) inv ∙ take_at (bytes_of (take k words)) (drop (4 * k) old) (4 * k) before)
      (ap (λ (x : ℕ). drop x (drop (4 * k) now)) four_long ∙ drop-drop 4 (4 * k) now ∙ behind)
      ∙ sym (append_assoc (bytes_of (take k words)) b (drop (4 * (k + 1)) old))
      ∙ ap (λ (x : List ℕ). x ++ drop (4 * (k + 1)) old) (ap (λ (x : List ℕ). bytes_of (take k words) ++ x) is ∙ bytes_next w refl)
