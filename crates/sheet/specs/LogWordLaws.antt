-- How the code puts the words of a table and of a log, one after the other.
use Rattle.std.specs.Prelude.{◌≡◌, refl, true, List, [], ◌∷◌, ◌++◌, map, ℕ, ◌+◌, ◌*◌, ◌≤◌, ◌<◌, leb, ℤ, get_or}
use Rattle.std.proofs.Common.{◌∙◌, append_assoc, append-nil, arith, drop_of_length-le, take-suc, add-one, leb-true}
use Rattle.std.proofs.lemmas.List.{map-append, length-map}
use Rattle.std.proofs.Math.ListN.{length, take}
use Rattle.std.proofs.Math.Seq.{length-take-le}
use Rattle.text.specs.HexList.{all_hex_words, are_hex, hexes_of}
use Rattle.text.proofs.HexListLaws.{hexes-length}
use Rattle.decimal.specs.DigitLaws.{both_true}
use Rattle.events.specs.Bytes.{least_first, bytes_of}
use Rattle.events.proofs.WordBytesLaws.{bytes-length, bytes-more}
use Rattle.integers.specs.TwosComplement.{bits_of}
use Rattle.text.specs.Hex.{is_hex, hex_of}
use Rattle.text.specs.Put.{Put}
use Rattle.text.specs.PutLaws.{put-start, put-none, put_both, put_front, put-length}
use Rattle.sheet.specs.LogWords.{most_words, is_log}

-- a table's words
abbrev pub table_bytes_of : List ℤ → List ℕ
table_bytes_of t = bytes_of (map bits_of t)

pub table-length : (t : List ℤ) → length (table_bytes_of t) ≡ 4 * length t
table-length t = rw (bytes-length (map bits_of t), length-map t bits_of)

pub table-next : (t : List ℤ) (k : ℕ) (z : ℤ) → k < length t → table_bytes_of (take (k + 1) t) ≡ table_bytes_of (take k t) ++ least_first (bits_of (get_or t k z))
table-next t k z h = rw (add-one k, take-suc t k z h, map-append bits_of (take k t) (get_or t k z ∷ [])) (bytes-more (map bits_of (take k t)) (bits_of (get_or t k z)))

-- put into a buffer of their length, they are all of it
pub table-whole : {buffer after : List ℕ} {end : ℕ} (t : List ℤ) → length t ≡ 104 → length buffer ≡ 416 → Put buffer 0 (table_bytes_of t) end after → after ≡ table_bytes_of t
table-whole {buffer} {after} {end} t n m p = put-start p ∙ rw (drop_of_length-le buffer {i = end} (omega (arith, p.ends, table-length t)), append-nil)

-- a log has at most 400 bytes
pub log-fits : (ws : List (List ℕ)) → is_log ws ≡ true → length (bytes_of (hexes_of ws)) ≤ 400
unfolding is_log are_hex
log-fits ws e = omega (arith, bytes-length (hexes_of ws), hexes-length ws, leb-true (length ws) most_words (both_true (leb (length ws) most_words) (all_hex_words 1 8 ws) e).0)

-- the words of a log `all`: those that are put, and those that are left, ws
pub record Left (all : List (List ℕ)) (out₀ out : List ℕ) (p : ℕ) (ws : List (List ℕ)) : Type 0 where
  pub space : p + 4 * length ws ≤ 400
  pub words : all_hex_words 1 8 ws ≡ true
  pub size : length out ≡ length out₀
  pub text : Put out₀ 0 (take p out) p out
  pub joined : take p out ++ bytes_of (hexes_of ws) ≡ bytes_of (hexes_of all)

pub left-all : (ws : List (List ℕ)) (out : List ℕ) → is_log ws ≡ true → Left ws out out 0 ws
unfolding is_log are_hex
left-all ws out e =
    let b = both_true (leb (length ws) most_words) (all_hex_words 1 8 ws) e in
    record { space = omega (arith, leb-true (length ws) most_words b.0); words = b.1; size = refl; text = put-none out 0; joined = refl }

pub left-none : (all : List (List ℕ)) (out₀ out : List ℕ) (p : ℕ) → Left all out₀ out p [] → Put out₀ 0 (bytes_of (hexes_of all)) p out
unfolding hexes_of bytes_of
left-none all out₀ out p l = rw (← (rw append-nil at l.joined)) l.text

module _ (all : List (List ℕ)) (out₀ out : List ℕ) (p : ℕ) (w : List ℕ) (ws : List (List ℕ)) (l : Left all out₀ out p (w ∷ ws)) (roomy : 400 ≤ length out₀) where
  pub left-hex : is_hex 1 8 w ≡ true
  unfolding all_hex_words
  left-hex = (both_true (is_hex 1 8 w) (all_hex_words 1 8 ws) l.words).0

  pub left-room : p + 4 ≤ length out
  left-room = omega (arith, l.size, l.space)

  pub left-next : {end : ℕ} {after : List ℕ} → Put out p (least_first (hex_of w)) end after → Left all out₀ after end ws
  unfolding all_hex_words hexes_of bytes_of
  left-next {end} {after} put =
      let room = left-room in
      let front : take end after ≡ take p out ++ least_first (hex_of w) = put_front put room in
      let fits : 0 + length (take p out) ≤ length out₀ = omega (arith, l.size, length-take-le p out (omega arith)) in
      record {
        space = omega (arith, put.ends, l.space);
        words = (both_true (is_hex 1 8 w) (all_hex_words 1 8 ws) l.words).1;
        size = put-length put room ∙ l.size;
        text = rw front (put_both l.text put fits);
        joined = rw (front, append_assoc) l.joined;
      }
