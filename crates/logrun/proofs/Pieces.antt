-- What one turn of each loop does: a word of a piece is fed and its line put behind the lines so far; a word of the table is stored.
use mathlib.Core.Path.{◌≡◌, sym, ◌∙◌}
use mathlib.Core.List.{List, ◌++◌, ◌∷◌, map, append_assoc, append-nil}
use Prim.Native.Nat.{ℕ, ◌+◌, ◌≤◌, ◌<◌}
use native.Mathlib.Omega.{arith}
use native.Mathlib.Numerals.{add-one}
use lib.IntN.{ℤ}
use lib.ListN.{length, take, drop, set, take-append-drop}
use lib.Seq.{length-take-le, drop-drop, take-suc-set, take_all}
use Rattle.events.specs.Bytes.{words_in}
use Rattle.events.proofs.ByteLaws.{word_from, word_front, few}
use Rattle.text.specs.Put.{Put}
use Rattle.text.specs.PutLaws.{put_front, put-behind}
use Rattle.logrun.specs.declared.Progress.{Progress}
use Rattle.integers.specs.TwosComplement.{signed_of}
use Rattle.logrun.specs.Progress.{word_fed, word_text, words_fed, words_text}
use Rattle.logrun.specs.ProgressLaws.{fed-next, text-next}

-- ---- feeding
module _ (q r : Progress) (rest four more out next : List ℕ) (end stop w : ℕ)
    (put : Put out end (word_text q w) stop next) (fits : end + length (word_text q w) ≤ length out)
    (fed : r ≡ word_fed q w) (here : w ≡ word_from four 0) (parted : rest ≡ four ++ more) (long : length four ≡ 4) where
  pub fed-more : words_fed q (words_in rest) ≡ words_fed r (words_in more)
  fed-more = fed-next q rest four more parted long ∙ rw (fed, here)

  pub text-more : take end out ++ words_text q (words_in rest) ≡ take stop next ++ words_text r (words_in more)
  text-more = rw (put_front put fits, text-next q rest four more parted long, fed, ← here, append_assoc)

  pub behind_more : (first : List ℕ) → drop end out ≡ drop end first → drop stop next ≡ drop stop first
  behind_more first e =
      let n = length (word_text q w) in
      put-behind put fits ∙ rw (put.ends, ← drop-drop n end out, ← drop-drop n end first, e)

-- the lines are all put
pub all-put : (first out text : List ℕ) (end : ℕ) → text ≡ take end out → drop end out ≡ drop end first → end ≤ length out → Put first 0 text end out
all-put first out text end e d h =
    let n : end ≡ 0 + length text = rw (e, length-take-le end out h) (omega arith) in
    record { ends = n; holds = sym (take-append-drop end out) ∙ rw (d, ← e, ← n) }

-- ---- the table
module _ (all : List ℤ) (t : List ℤ) (rest four more : List ℕ) (k w : ℕ) (z : ℤ) (inv : all ≡ take k t ++ map signed_of (words_in rest)) (h : k < length t) where
  pub table_more : rest ≡ four ++ more → length four ≡ 4 → w ≡ word_from four 0 → z ≡ signed_of w → all ≡ take (k + 1) (set t k z) ++ map signed_of (words_in more)
  table_more parted long is signed =
      let front : words_in (four ++ more) ≡ word_from four 0 ∷ words_in more = word_front four more long in
      inv ∙ rw (parted, front, ← is, ← signed, add-one k, take-suc-set t k z h, append_assoc)

pub table_done : (t : List ℤ) (k : ℕ) (rest : List ℕ) → k ≡ 104 → length t ≡ 104 → length rest < 4 → take k t ++ map signed_of (words_in rest) ≡ t
table_done t k rest e l short = rw (take_all k t (omega arith), few rest short, append-nil)
