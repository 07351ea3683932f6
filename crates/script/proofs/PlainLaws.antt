-- A COMMAND WRITTEN IN ITS PLAIN FORM IS READ BACK: its words parted by one space, its numbers as `decimal` and `text` write them.
use Rattle.std.specs.Prelude.{◌≡◌, true, List, [], ◌∷◌, ℕ, suc, ◌+◌, ◌*◌, ◌^◌, ◌≤◌, ◌<◌, ltb, ℤ, pos, length, get_or}
use Rattle.std.proofs.Math.Path.{refl}
use Rattle.std.proofs.Common.{ap, ◌∙◌, arith, length-append}
use borrow.Author.Tests.{ltb-true, le-ltb, ne_eqb, le-leb}
use Rattle.text.specs.HexList.{all_hex_words, are_hex, hexes_of}
use Rattle.integers.specs.Int.{P, N, Within}
use Rattle.decimal.specs.Decimal.{largest, text_of, same_text}
use Rattle.decimal.specs.DigitLaws.{both_true}
use Rattle.decimal.specs.DecimalLaws.{written-is-read, text-at-most-19}
use Rattle.text.specs.Plain.{all_plain, Plain, Words, last, more, spoken}
use Rattle.text.specs.PlainLaws.{words_back, trimmed-same, text-plain}
use Rattle.text.specs.Hex.{hex_in, pair_words, all_bytes}
use Rattle.text.proofs.HexLaws.{hex-is, spaced-length}
use Rattle.text.proofs.HexBackLaws.{hexin-length, hexin-hex, hexin-word, hexin-back, pair-back, pair-hex, pairs-count, pair-words, pair-text}
use Rattle.script.specs.Table.{named_in}
use Rattle.script.specs.Commands.{natural_by, natural_in, natural_of, signed_by, signed_of, node_of, slot_of, alone_of, telegram_in, levels_of, tick_of, framed_of, most_bytes, is_frame, frame_in, frame_of, most_listed, is_burst, burst_in, telegrams_in, telegrams_of, named_of, meaning_of, longest, limit_of, hash, command_of, node_word, slot_word, start_word, halves_word, record_word, telegram_word, burst_word, levels_word, tick_word, frame_word}
use Rattle.script.proofs.NumberLaws.{signed_word}
use Rattle.script.proofs.LimitLaws.{limit-least}
use Rattle.script.proofs.BurstLaws.{all_below}
use Rattle.script.specs.declared.Command.TheVariants.{Node, Slot, Start, Halves, Record, Telegram, Burst, Levels, Tick, Frame}

-- ---- a line of plain words
-- it begins as its first word does
pub first_byte : (w : List ℕ) (ws : List (List ℕ)) → Words (w ∷ ws) → get_or (spoken (w ∷ ws)) 0 0 ≡ get_or w 0 0
unfolding spoken
first_byte w [] r = refl
first_byte [] (v ∷ ws) (more p r) = absurd (omega (arith, p.some))
first_byte (b ∷ w) (v ∷ ws) r = refl

-- A LINE OF PLAIN WORDS MEANS WHAT ITS FIRST WORD MAKES OF THE OTHERS, where it is no remark and not too long
pub plain-within : (w : List ℕ) (ws : List (List ℕ)) → Words (w ∷ ws) → (get_or w 0 0 ≡ hash → ⊥) → length (spoken (w ∷ ws)) ≤ limit_of (w ∷ ws) → command_of (spoken (w ∷ ws)) ≡ named_of w ws
unfolding command_of meaning_of
plain-within w ws r n l =
    rw (trimmed-same (w ∷ ws) r, words_back (w ∷ ws) r, le-ltb (limit_of (w ∷ ws)) (length (spoken (w ∷ ws))) l, first_byte w ws r, ne_eqb (get_or w 0 0) hash n)

-- ... as it is within the limit of every word
pub plain-means : (w : List ℕ) (ws : List (List ℕ)) → Words (w ∷ ws) → (get_or w 0 0 ≡ hash → ⊥) → length (spoken (w ∷ ws)) ≤ longest → command_of (spoken (w ∷ ws)) ≡ named_of w ws
plain-means w ws r n l = plain-within w ws r n (omega (arith, limit-least (w ∷ ws)))

-- ---- numbers as words
pub small : (n : ℕ) → n ≤ 65535 → Within largest (pos n)
small n h = record { above = omega arith; below = omega arith }

-- a word of one byte, and one behind it
pair-length : (b : ℕ) (w : List ℕ) → length (spoken ((b ∷ []) ∷ (w ∷ []))) ≡ length w + 2
unfolding spoken
pair-length b w = omega arith

-- `i N` and `c MS` are read back
pub levels-back : (n : ℕ) → n ≤ 255 → command_of (spoken (levels_word ∷ (text_of (pos n) ∷ []))) ≡ Levels n
unfolding named_in same_text levels_of natural_of natural_by natural_in all_plain
levels-back n h =
    let w = small n (omega arith) in
    plain-means levels_word (text_of (pos n) ∷ []) (more (record { some = omega arith; all = refl }) (last (text-plain (pos n) w))) (λ q. omega arith) (rw pair-length (omega (arith, text-at-most-19 (pos n))))
    ∙ rw (written-is-read (pos n) w, le-leb n 255 h)

pub tick-back : (n : ℕ) → n ≤ 65535 → command_of (spoken (tick_word ∷ (text_of (pos n) ∷ []))) ≡ Tick n
unfolding named_in same_text tick_of natural_of natural_by natural_in all_plain
tick-back n h =
    let w = small n h in
    plain-means tick_word (text_of (pos n) ∷ []) (more (record { some = omega arith; all = refl }) (last (text-plain (pos n) w))) (λ q. omega arith) (rw pair-length (omega (arith, text-at-most-19 (pos n))))
    ∙ rw (written-is-read (pos n) w, le-leb n 65535 h)

slot-length : (v w : List ℕ) → length v ≤ 19 → length w ≤ 19 → length (spoken (slot_word ∷ (v ∷ (w ∷ [])))) ≤ longest
unfolding spoken
slot-length v w h i = simp length-append (omega arith)

-- `node A` is read back
pub node-back : (n : ℕ) → n ≤ 65535 → command_of (spoken (node_word ∷ (text_of (pos n) ∷ []))) ≡ Node n
unfolding named_in same_text node_of natural_of natural_by natural_in all_plain spoken
node-back n h =
    let w = small n h in
    plain-means node_word (text_of (pos n) ∷ []) (more (record { some = omega arith; all = refl }) (last (text-plain (pos n) w))) (λ q. omega arith) (omega (arith, text-at-most-19 (pos n)))
    ∙ rw (written-is-read (pos n) w, le-leb n 65535 h)

-- `slot N V` is read back, every slot and every word of 32 bits
pub slot-back : (n : ℕ) (z : ℤ) → n ≤ 103 → P z < 2 ^ 31 → N z ≤ 2 ^ 31 → command_of (spoken (slot_word ∷ (text_of (pos n) ∷ (text_of z ∷ [])))) ≡ Slot n z
unfolding named_in same_text slot_of natural_of natural_by natural_in signed_of signed_by all_plain
slot-back n z h p q =
    let w = small n (omega arith) in
    let v : Within largest z = record { above = omega arith; below = omega arith } in
    plain-means slot_word (text_of (pos n) ∷ (text_of z ∷ [])) (more (record { some = omega arith; all = refl }) (more (text-plain (pos n) w) (last (text-plain z v)))) (λ q. omega arith) (slot-length (text_of (pos n)) (text_of z) (text-at-most-19 (pos n)) (text-at-most-19 z))
    ∙ rw (written-is-read (pos n) w, le-leb n 103 h, written-is-read z v, signed_word z p q)

-- `t HEX` is read back, every word of 32 bits as eight digits
pub telegram-back : (n : ℕ) → n < 2 ^ 32 → command_of (spoken (telegram_word ∷ (hex_in 8 n ∷ []))) ≡ Telegram n
unfolding named_in same_text telegram_in all_plain
telegram-back n h =
    let l = hexin-length 8 n in
    plain-means telegram_word (hex_in 8 n ∷ []) (more (record { some = omega arith; all = refl }) (last (hexin-word 8 n (omega arith)))) (λ q. omega arith) (rw pair-length (omega arith))
    ∙ rw (hex-is 1 8 (hex_in 8 n) (hexin-hex 8 n (omega arith)), hexin-back 8 n (omega arith))

-- `start` is read back
pub start_back : command_of (spoken (start_word ∷ [])) ≡ Start
unfolding named_in same_text alone_of all_plain spoken
start_back = plain-means start_word [] (last (record { some = omega arith; all = refl })) (λ q. omega arith) (omega arith)

-- `halves` is read back
pub halves-back : command_of (spoken (halves_word ∷ [])) ≡ Halves
unfolding named_in same_text alone_of all_plain spoken
halves-back = plain-means halves_word [] (last (record { some = omega arith; all = refl })) (λ q. omega arith) (omega arith)

-- `record` is read back
pub record-back : command_of (spoken (record_word ∷ [])) ≡ Record
unfolding named_in same_text alone_of all_plain spoken
record-back = plain-means record_word [] (last (record { some = omega arith; all = refl })) (λ q. omega arith) (omega arith)

-- ---- frames
pairs-all : (l : List ℕ) → all_bytes l ≡ true → all_hex_words 2 2 (pair_words l) ≡ true
unfolding all_bytes pair_words all_hex_words
pairs-all [] e = refl
pairs-all (b ∷ l) e =
    let q = both_true (ltb b 256) (all_bytes l) e in
    rw (pair-hex b (ltb-true b 256 q.0), pairs-all l q.1)

pairs-values : (l : List ℕ) → all_bytes l ≡ true → hexes_of (pair_words l) ≡ l
unfolding all_bytes pair_words hexes_of
pairs-values [] e = refl
pairs-values (b ∷ l) e =
    let q = both_true (ltb b 256) (all_bytes l) e in
    rw (pair-back b (ltb-true b 256 q.0), pairs-values l q.1)

frame_is : (l : List ℕ) → length l ≤ most_bytes → all_bytes l ≡ true → is_frame (pair_words l) ≡ true
unfolding is_frame are_hex
frame_is l h e = rw (pairs-count l, le-leb (length l) most_bytes h, pairs-all l e)

frame-length : (l : List ℕ) → length l ≤ most_bytes → length (spoken (frame_word ∷ pair_words l)) ≤ longest
frame-length l h = rw (pair-text frame_word l) (omega (arith, spaced-length l))

-- `f HH HH ..` IS READ BACK: 0 to 300 bytes
pub frame_back : (l : List ℕ) → length l ≤ most_bytes → all_bytes l ≡ true → command_of (spoken (frame_word ∷ pair_words l)) ≡ Frame
unfolding named_in same_text framed_of all_plain
frame_back l h e =
    plain-means frame_word (pair_words l) (pair-words frame_word l (record { some = omega arith; all = refl })) (λ q. omega arith) (frame-length l h)
    ∙ rw (frame_is l h e)

pub frame-bytes-back : (l : List ℕ) → length l ≤ most_bytes → all_bytes l ≡ true → frame_of (spoken (frame_word ∷ pair_words l)) ≡ l
unfolding frame_of frame_in all_plain
frame-bytes-back l h e =
    let r = pair-words frame_word l (record { some = omega arith; all = refl }) in
    rw (trimmed-same (frame_word ∷ pair_words l) r, words_back (frame_word ∷ pair_words l) r, frame_is l h e) (pairs-values l e)

-- ---- bursts
-- a word of eight digits for each telegram
unfoldable pub eight_words : List ℕ → List (List ℕ)
eight_words [] = []
eight_words (n ∷ l) = hex_in 8 n ∷ eight_words l

eights-count : (l : List ℕ) → length (eight_words l) ≡ length l
unfolding eight_words
eights-count [] = refl
eights-count (n ∷ l) = ap suc (eights-count l)

eight-words : (w : List ℕ) (l : List ℕ) → Plain w → Words (w ∷ eight_words l)
unfolding eight_words
eight-words w [] p = last p
eight-words w (n ∷ l) p = more p (eight-words (hex_in 8 n) l (hexin-word 8 n (omega arith)))

-- a word and telegrams behind it: nine bytes for each telegram
eights-length : (w : List ℕ) (l : List ℕ) → length (spoken (w ∷ eight_words l)) ≡ length w + 9 * length l
unfolding eight_words spoken
eights-length w [] = omega arith
eights-length w (n ∷ l) = rw (length-append, eights-length (hex_in 8 n) l, hexin-length 8 n) (omega arith)

eights-all : (l : List ℕ) → all_hex_words 1 8 (eight_words l) ≡ true
unfolding eight_words all_hex_words
eights-all [] = refl
eights-all (n ∷ l) = rw (hex-is 1 8 (hex_in 8 n) (hexin-hex 8 n (omega arith)), eights-all l)

eights-values : (l : List ℕ) → all_below (2 ^ 32) l ≡ true → hexes_of (eight_words l) ≡ l
unfolding all_below eight_words hexes_of
eights-values [] e = refl
eights-values (n ∷ l) e =
    let q = both_true (ltb n (2 ^ 32)) (all_below (2 ^ 32) l) e in
    rw (hexin-back 8 n (omega (arith, ltb-true n (2 ^ 32) q.0)), eights-values l q.1)

module _ (l : List ℕ) (h : length l ≤ most_listed) where
  burst-is : is_burst (eight_words l) ≡ true
  unfolding is_burst are_hex
  burst-is = rw (eights-count l, le-leb (length l) most_listed h, eights-all l)

  burst-words : Words (burst_word ∷ eight_words l)
  unfolding all_plain
  burst-words = eight-words burst_word l (record { some = omega arith; all = refl })

  burst-limit : length (spoken (burst_word ∷ eight_words l)) ≤ limit_of (burst_word ∷ eight_words l)
  unfolding limit_of same_text
  burst-limit = omega (arith, eights-length burst_word l)

  -- `b HEX HEX ..` IS READ BACK: 0 to 1,100 telegrams of eight digits
  pub burst-back : command_of (spoken (burst_word ∷ eight_words l)) ≡ Burst
  unfolding named_in same_text burst_in
  burst-back = plain-within burst_word (eight_words l) burst-words (λ q. omega arith) burst-limit ∙ rw burst-is

  pub burst-telegrams-back : all_below (2 ^ 32) l ≡ true → telegrams_of (spoken (burst_word ∷ eight_words l)) ≡ l
  unfolding telegrams_of telegrams_in
  burst-telegrams-back e =
      rw (trimmed-same (burst_word ∷ eight_words l) burst-words, words_back (burst_word ∷ eight_words l) burst-words, burst-is) (eights-values l e)
