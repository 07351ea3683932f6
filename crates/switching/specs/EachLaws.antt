-- The laws of `each_from`: the loop that changes the elements in place, one after the other, a list of four done at once, and what stands at each place then.
-- Assumes nothing.
use Rattle.std.specs.Prelude.{◌≡◌, ℕ, zero, suc, ◌+◌, ◌<◌, length, get_or, set, take, drop}
use Rattle.std.proofs.Math.Path.{refl}
use Rattle.std.proofs.Common.{sym, ◌∙◌, ap, add-one, arith, drop-cons, take-suc-set, drop-set-lt}
use mathlib.Core.List.{List, [], ◌∷◌, ◌++◌, append-nil, append_assoc}
use Rattle.std.proofs.Math.Seq.{take-length, drop-length}
use Rattle.switching.specs.Each.{each_from}

-- how far the loop is: the elements below i are done, the others are as they were
module _ {A : Type 0} (f : ℕ → A → A) (l : List A) where
  unfoldable pub done_to : ℕ → List A
  done_to i = take i l ++ each_from i f (drop i l)

  pub each_start : each_from 0 f l ≡ done_to 0
  unfolding done_to
  each_start = refl

  pub each-end : (n : ℕ) → length l ≡ n → done_to n ≡ l
  unfolding done_to each_from
  each-end n e = rw (← e, drop-length l, append-nil, take-length l)

-- one more element is done
pub each_more : {A : Type 0} (f : ℕ → A → A) (l : List A) (i : ℕ) (d v : A) → i < length l → v ≡ f i (get_or l i d) → done_to f l i ≡ done_to f (set l i v) (i + 1)
unfolding done_to each_from
each_more f l i d v h e =
    rw (e, add-one, take-suc-set l i (f i (get_or l i d)), drop-set-lt (suc i) l i (f i (get_or l i d)) (omega arith), drop-cons l i d h)
    (sym (append_assoc (take i l) (f i (get_or l i d) ∷ []) (each_from (suc i) f (drop (suc i) l))))

-- a list of four is done where each of its elements is
pub each-four : {A : Type 0} (f : ℕ → A → A) (l : List A) (d : A) {a b c e : A} → length l ≡ 4 →
    a ≡ f 0 (get_or l 0 d) → b ≡ f 1 (get_or l 1 d) → c ≡ f 2 (get_or l 2 d) → e ≡ f 3 (get_or l 3 d) → a ∷ b ∷ c ∷ e ∷ [] ≡ each_from 0 f l
unfolding each_from
each-four f [] d n p q r s = absurd (omega arith)
each-four f (w ∷ []) d n p q r s = absurd (omega arith)
each-four f (w ∷ (x ∷ [])) d n p q r s = absurd (omega arith)
each-four f (w ∷ (x ∷ (y ∷ []))) d n p q r s = absurd (omega arith)
each-four f (w ∷ (x ∷ (y ∷ (z ∷ [])))) d n p q r s = rw (p, q, r, s)
each-four f (w ∷ (x ∷ (y ∷ (z ∷ (v ∷ l))))) d n p q r s = absurd (omega arith)

-- no element is lost, and the one at place k is f of k and what stood there
pub each-length : {A : Type 0} (i : ℕ) (f : ℕ → A → A) (l : List A) → length (each_from i f l) ≡ length l
unfolding each_from
each-length i f [] = refl
each-length i f (x ∷ l) = ap suc (each-length (suc i) f l)

at_from : {A : Type 0} (i : ℕ) (f : ℕ → A → A) (l : List A) (k : ℕ) (d : A) → k < length l → get_or (each_from i f l) k d ≡ f (k + i) (get_or l k d)
unfolding each_from
at_from i f [] k d h = absurd (omega arith)
at_from i f (x ∷ l) zero d h = ap (λ (j : ℕ). f j x) (omega arith)
at_from i f (x ∷ l) (suc k) d h = at_from (suc i) f l k d (omega arith) ∙ ap (λ (j : ℕ). f j (get_or l k d)) (omega arith)

pub each_at : {A : Type 0} (f : ℕ → A → A) (l : List A) (k : ℕ) (d : A) → k < length l → get_or (each_from 0 f l) k d ≡ f k (get_or l k d)
each_at f l k d h = at_from 0 f l k d h ∙ ap (λ (j : ℕ). f j (get_or l k d)) (omega arith)
