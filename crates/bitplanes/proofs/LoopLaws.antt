-- What a copy and the loop of `exchange` do to their lists, one turn at a time. A round goes through 16 pairs of words that are w apart.
use Rattle.std.specs.Prelude.{◌≡◌, refl, ◌⊎◌, List, ◌++◌, ℕ, suc, ◌+◌, ◌-◌, ◌*◌, ◌/◌, ◌%◌, ◌≤◌, ◌<◌, length, take, drop, set}
use Rattle.std.proofs.Common.{sym, ◌∙◌, subst, inl, inr, mod-lt, add-zero, mul_assoc, mul_comm, div-lt_iff_lt-mul, add-one, lit<, drop-cons, take-suc, length-take-le, lt-length-set, ext_get_or}
use Rattle.std.proofs.Math.Path.{ap, ap₂}
use Rattle.std.proofs.Math.Nat.{mod-le, div-add-mod'}
use native.Mathlib.Omega.{arith}
use Rattle.std.proofs.Math.Arith.{digits_lt, digits_div, digits_mod}
use Rattle.std.specs.Int.Bits.{bit_and}
use Rattle.std.proofs.lemmas.Nat.{and_mask}
use Rattle.std.proofs.Math.ListN.{get_or}
use Rattle.std.proofs.lemmas.List.{set_at}
use Rattle.std.proofs.Math.Seq.{append_snoc, get_or-set_same, get_or-set_other}
use Rattle.bits.proofs.BitLaws.{below_or}
use Rattle.bitplanes.specs.IndexLaws.{above, at, below, joined, parts, joined-above, joined_at, joined-below, joined-lt, joined-one, above-lt}
use Rattle.bitplanes.proofs.MaskLaws.{sizes}
use Rattle.bitplanes.specs.RoundSteps.{Width, First, lower_of, upper_of, chosen, exchanged_word, exchanged}
use Rattle.bitplanes.proofs.RoundLaws.{even_odd, exchanged-length, exchanged-at}

-- ---- a copy: one word more
pub copy-next : (s d : List ℕ) (i : ℕ) → i < length s → i < length d → set (take i s ++ drop i d) i (get_or s i 0) ≡ take (i + 1) s ++ drop (i + 1) d
copy-next s d i hs hd =
    ap (λ (r : List ℕ). set (take i s ++ r) i (get_or s i 0)) (drop-cons d i 0 hd)
    ∙ set_at (take i s) (get_or d i 0) (drop (suc i) d) (get_or s i 0) i (length-take-le i s (omega arith))
    ∙ sym (append_snoc (take i s) (get_or s i 0) (drop (suc i) d))
    ∙ ap (λ (r : List ℕ). r ++ drop (suc i) d) (sym (take-suc s i 0 hs))
    ∙ ap (λ (k : ℕ). take k s ++ drop k d) (sym (add-one i))

-- ---- the words of a pair: p parted at w, with a 0 or a 1 between
-- word b of pair p
abbrev in_pair : ℕ → ℕ → ℕ → ℕ
in_pair w p b = joined w (p / w) b (p % w)

first-joined : (w p : ℕ) → 2 * p - p % w ≡ in_pair w p 0
first-joined w p =
    let e : p / w * w + p % w ≡ p = div-add-mod' p w in
    let f : (p / w * 2 + 0) * w ≡ 2 * (p / w * w) =
    ap (λ (x : ℕ). x * w) (add-zero (p / w * 2) ∙ mul_comm (p / w) 2) ∙ mul_assoc 2 (p / w) w in
    omega arith

and_width : (w p : ℕ) → Width w → bit_and p (w - 1) ≡ p % w
and_width w p v = ap (λ (x : ℕ). bit_and p (x - 1)) (sizes w v).power ∙ and_mask p (sizes w v).log ∙ ap (λ (x : ℕ). p % x) (sym (sizes w v).power)

pub first-le : (w p : ℕ) → Width w → bit_and p (w - 1) ≤ 2 * p
first-le w p v = let e : bit_and p (w - 1) ≡ p % w = and_width w p v in let h : p % w ≤ p = mod-le p w in omega arith

pub first-is : (w p : ℕ) → Width w → p < 16 → First w p (2 * p - bit_and p (w - 1))
first-is w p v h =
    let e : 2 * p - bit_and p (w - 1) ≡ 2 * p - p % w = ap (λ (x : ℕ). 2 * p - x) (and_width w p v) in
    record { is = e; room = subst (λ (x : ℕ). x < 32) (joined-one w (p / w) (p % w) ∙ ap (λ (x : ℕ). x + w) (sym (e ∙ first-joined w p))) inside }
  where
    upto : p / w < 16 / w
    upto = (div-lt_iff_lt-mul {k = w} {x = p} {y = 16 / w} (sizes w v).above).1 (subst (λ (x : ℕ). p < x) (sym (sizes w v).half) h)

    inside : in_pair w p 1 < 32
    inside =
        subst (λ (x : ℕ). in_pair w p 1 < x) (sizes w v).whole
        (joined-lt w (p / w) 1 (p % w) (lit< tt) (mod-lt p (sizes w v).above) (16 / w) upto)

-- the pair that word r is in
unfoldable pub pair_of : ℕ → ℕ → ℕ
pair_of w r = above w r * w + below w r

pub pair_lt : (w r : ℕ) → Width w → r < 32 → pair_of w r < 16
unfolding pair_of
pair_lt w r v h =
    subst (λ (x : ℕ). pair_of w r < x) (sizes w v).half
    (digits_lt (above-lt w r (16 / w) (sizes w v).above (subst (λ (x : ℕ). r < x) (sym (sizes w v).whole) h)) (mod-lt r (sizes w v).above))

module _ (w p b : ℕ) (z : 0 < w) (hb : b < 2) where
  pub pair-of : pair_of w (in_pair w p b) ≡ p
  unfolding pair_of
  pair-of =
      ap₂ (λ (x y : ℕ). x * w + y) (joined-above w (p / w) b (p % w) hb (mod-lt p z)) (joined-below w (p / w) b (p % w) hb (mod-lt p z)) ∙ div-add-mod' p w

  pub pair-at : at w (in_pair w p b) ≡ b
  pair-at = joined_at w (p / w) b (p % w) hb (mod-lt p z)

-- a word is in its pair
in_pair_lem : (w p r b : ℕ) → 0 < w → pair_of w r ≡ p → at w r ≡ b → r ≡ in_pair w p b
unfolding pair_of
in_pair_lem w p r b z e f =
    sym (parts w r) ∙ ap (λ (x : ℕ). joined w (above w r) x (below w r)) f
    ∙ ap₂ (λ (x y : ℕ). joined w x b y)
    (sym (digits_div (above w r) (mod-lt r z)) ∙ ap (λ (x : ℕ). x / w) e)
    (sym (digits_mod (above w r) (mod-lt r z)) ∙ ap (λ (x : ℕ). x % w) e)

-- ---- a round after p pairs
pub record Part (w : ℕ) (ts us : List ℕ) (p : ℕ) : Type 0 where
  pub done : (r : ℕ) → r < 32 → pair_of w r < p → get_or us r 0 ≡ exchanged_word w ts r
  pub left : (r : ℕ) → r < 32 → p ≤ pair_of w r → get_or us r 0 ≡ get_or ts r 0

pub part_none : (w : ℕ) (ts : List ℕ) → Part w ts ts 0
part_none w ts = record { done = λ r h l. absurd (never (pair_of w r) l); left = λ r h l. refl }
  where
    never : (n : ℕ) → n < 0 → ⊥
    never n h = omega arith

pub part-all : (w : ℕ) (ts us : List ℕ) → Width w → length us ≡ 32 → Part w ts us 16 → us ≡ exchanged w ts
part-all w ts us v l part =
    ext_get_or 0 us (exchanged w ts) (l ∙ sym (exchanged-length w ts))
    (λ r h.
    let b : r < 32 = subst (λ (x : ℕ). r < x) l h in
    part.done r b (pair_lt w r v b) ∙ sym (exchanged-at w r ts b))

module _ (w p k : ℕ) (ts us : List ℕ) (a b : ℕ) (v : Width w) (hp : p < 16) (l : length us ≡ 32) (first : First w p k)
    (ea : a ≡ lower_of w (get_or us k 0) (get_or us (k + w) 0)) (eb : b ≡ upper_of w (get_or us k 0) (get_or us (k + w) 0)) (part : Part w ts us p) where
  vs : List ℕ
  vs = set (set us k a) (k + w) b

  k-is : k ≡ in_pair w p 0
  k-is = first.is ∙ first-joined w p

  kw-is : k + w ≡ in_pair w p 1
  kw-is = ap (λ (x : ℕ). x + w) k-is ∙ sym (joined-one w (p / w) (p % w))

  pair-k : pair_of w k ≡ p
  pair-k = ap (pair_of w) k-is ∙ pair-of w p 0 (sizes w v).above (lit< tt)

  pair-kw : pair_of w (k + w) ≡ p
  pair-kw = ap (pair_of w) kw-is ∙ pair-of w p 1 (sizes w v).above (lit< tt)

  other : (r : ℕ) → (pair_of w r ≡ p → ⊥) → get_or vs r 0 ≡ get_or us r 0
  unfolding vs
  other r d =
      get_or-set_other (set us k a) (k + w) r b 0 (λ e. d (ap (pair_of w) e ∙ pair-kw)) ∙ get_or-set_other us k r a 0 (λ e. d (ap (pair_of w) e ∙ pair-k))

  left-k : get_or us k 0 ≡ get_or ts k 0
  left-k = let e : pair_of w k ≡ p = pair-k in let q = first.room in part.left k (omega arith) (omega arith)

  left-kw : get_or us (k + w) 0 ≡ get_or ts (k + w) 0
  left-kw = let e : pair_of w (k + w) ≡ p = pair-kw in part.left (k + w) first.room (omega arith)

  at-k : get_or vs k 0 ≡ exchanged_word w ts k
  unfolding vs exchanged_word
  at-k =
      let q = first.room in
      let o : 1 ≤ w = (sizes w v).above in
      get_or-set_other (set us k a) (k + w) k b 0 (λ (e : k ≡ k + w). omega arith) ∙ get_or-set_same us k a 0 (omega arith) ∙ ea
      ∙ ap₂ (lower_of w) left-k left-kw
      ∙ ap (λ (n : ℕ). chosen n (lower_of w (get_or ts k 0) (get_or ts (k + w) 0)) (upper_of w (get_or ts (k - w) 0) (get_or ts k 0)))
      (sym (ap (at w) k-is ∙ pair-at w p 0 (sizes w v).above (lit< tt)))

  at-kw : get_or vs (k + w) 0 ≡ exchanged_word w ts (k + w)
  unfolding vs exchanged_word
  at-kw =
      let q = first.room in
      let s : k ≡ k + w - w = omega arith in
      get_or-set_same (set us k a) (k + w) b 0 (lt-length-set us k a (omega arith)) ∙ eb
      ∙ ap₂ (upper_of w) (left-k ∙ ap (λ (x : ℕ). get_or ts x 0) s) left-kw
      ∙ ap (λ (n : ℕ). chosen n (lower_of w (get_or ts (k + w) 0) (get_or ts (k + w + w) 0)) (upper_of w (get_or ts (k + w - w) 0) (get_or ts (k + w) 0)))
      (sym (ap (at w) kw-is ∙ pair-at w p 1 (sizes w v).above (lit< tt)))

  of_pair : (r : ℕ) → pair_of w r ≡ p → (at w r ≡ 0) ⊎ (at w r ≡ 1) → get_or vs r 0 ≡ exchanged_word w ts r
  of_pair r e (inl f) = subst (λ (x : ℕ). get_or vs x 0 ≡ exchanged_word w ts x) (k-is ∙ sym (in_pair_lem w p r 0 (sizes w v).above e f)) at-k
  of_pair r e (inr f) = subst (λ (x : ℕ). get_or vs x 0 ≡ exchanged_word w ts x) (kw-is ∙ sym (in_pair_lem w p r 1 (sizes w v).above e f)) at-kw

  done-by : (r : ℕ) → r < 32 → pair_of w r < p + 1 → (pair_of w r < p) ⊎ (p ≤ pair_of w r) → get_or vs r 0 ≡ exchanged_word w ts r
  done-by r h m (inl s) = other r (λ (e : pair_of w r ≡ p). omega arith) ∙ part.done r h s
  done-by r h m (inr s) = let e : pair_of w r ≡ p = omega arith in of_pair r e (even_odd w r)

  pub part-more : Part w ts (set (set us k a) (k + w) b) (p + 1)
  unfolding vs
  part-more =
      record {
        done = λ r h m. done-by r h m (below_or (pair_of w r) p);
        left = λ r h m. other r (λ (e : pair_of w r ≡ p). omega arith) ∙ part.left r h (omega arith);
      }
