-- What one turn of each loop over a text does.
use Prim.Native.Nat.{ℕ, suc, ◌+◌, ◌*◌, ◌≤◌, ◌<◌}
use mathlib.Core.Path.{◌≡◌, refl}
use mathlib.Core.Bool.{Bool, true, false, cond}
use mathlib.Core.List.{List, [], ◌∷◌}
use native.Mathlib.Omega.{arith}
use native.Mathlib.Numerals.{add-one}
use lib.Dec.{eqb}
use lib.ListN.{length, get_or, drop, drop_of_length-le}
use lib.Seq.{drop-cons}
use borrow.Author.Tests.{eq-eqb, ne_eqb}
use Rattle.text.specs.Marks.{space}
use Rattle.text.specs.WordSteps.{unspaced_of, word_length}
use Rattle.std.specs.Option.{unwrap_or}
use Rattle.text.specs.Hex.{hex_digit, hex_from}

-- ---- the bytes before the first space
pub length-stop : (b : ℕ) (s : List ℕ) → b ≡ space → word_length (b ∷ s) ≡ 0
unfolding word_length
length-stop b s e = rw (eq-eqb b space e)

pub length-next : (b : ℕ) (s : List ℕ) → (b ≡ space → ⊥) → word_length (b ∷ s) ≡ word_length s + 1
unfolding word_length
length-next b s e = rw (ne_eqb b space e) (omega arith)

-- ---- spaces in front: how many there are, and the text behind them
unfoldable pub spaces : List ℕ → ℕ
spaces [] = 0
spaces (b ∷ s) = cond (eqb b space) (suc (spaces s)) 0

pub spaces-stop : (b : ℕ) (s : List ℕ) → (b ≡ space → ⊥) → spaces (b ∷ s) ≡ 0
unfolding spaces
spaces-stop b s e = rw (ne_eqb b space e)

pub spaces-next : (b : ℕ) (s : List ℕ) → b ≡ space → spaces (b ∷ s) ≡ spaces s + 1
unfolding spaces
spaces-next b s e = rw (eq-eqb b space e) (omega arith)

pub spaces-within : (s : List ℕ) → spaces s ≤ length s
unfolding spaces
spaces-within [] = omega arith
spaces-within (b ∷ s) = by (eqb b space) (spaces-within s)
  where
    by : (t : Bool) → spaces s ≤ length s → cond t (suc (spaces s)) 0 ≤ suc (length s)
    by true h = omega arith
    by false h = omega arith

pub spaces-behind : (s : List ℕ) → drop (spaces s) s ≡ unspaced_of s
unfolding spaces unspaced_of
spaces-behind [] = refl
spaces-behind (b ∷ s) = by (eqb b space) (spaces-behind s)
  where
    by : (t : Bool) → drop (spaces s) s ≡ unspaced_of s → drop (cond t (suc (spaces s)) 0) (b ∷ s) ≡ cond t (unspaced_of s) (b ∷ s)
    by true ih = ih
    by false ih = refl

-- ---- hex digits
pub hex-drop : (v : ℕ) (s : List ℕ) (i : ℕ) → i < length s → hex_from (v * 16 + unwrap_or (hex_digit (get_or s i 0)) 16) (drop (i + 1) s) ≡ hex_from v (drop i s)
unfolding hex_from
hex-drop v s i h = rw (add-one i, drop-cons s i 0 h)

pub hex-last : (v : ℕ) (s : List ℕ) (i : ℕ) → length s ≤ i → hex_from v (drop i s) ≡ v
unfolding hex_from
hex-last v s i h = rw (drop_of_length-le s h)
