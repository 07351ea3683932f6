-- The five rounds turn a group. After the rounds of width 16 down to w, bit j of word i is the bit of the first group at the place where
-- row and column have exchanged their index bits at w and above (`Held w`). One law takes `Held (2 * w)` to `Held w` (`round`); it is used five times.
use Rattle.std.specs.Prelude.{◌≡◌, refl, ◌⊎◌, List, ℕ, zero, suc, ◌+◌, ◌-◌, ◌*◌, ◌/◌, ◌%◌, ◌^◌, ◌≤◌, ◌<◌, length, get_or}
use Rattle.std.proofs.Common.{sym, ◌∙◌, subst, inl, inr, zero-add, add_comm, mod-lt, not-suc-le-zero, le_of_suc-le-suc, lt_of_le_of_lt, arith, pow_pos, shl_exact}
use Rattle.std.proofs.Math.Path.{ap, ap₂}
use Rattle.std.proofs.Math.Nat.{add-div_right, div-eq_of_lt}
use Rattle.std.specs.Int.Bits.{bit_xor, differ, and_le_r, xor_lt}
use Rattle.bits.specs.Bits.{bit_at}
use Rattle.bitplanes.specs.Turned.{turned_group}
use Rattle.bits.proofs.BitLaws.{below_or, two, bit-lt, bit-xor, bit-shr, bit-shl, bit-shl-low, bit-mod, digits-differ, differ-none, kept, cut}
use Rattle.bitplanes.specs.IndexLaws.{at, at_lt, taking, taking-same, taking-up, taking-down, taking-lt, mixed, mixed-taking}
use Rattle.bitplanes.proofs.MaskLaws.{sizes, mask-bit}
use Rattle.bitplanes.proofs.PlaneLaws.{group-is}
use Rattle.bitplanes.specs.RoundSteps.{Width, by1, by2, by4, by8, by16, mask_of, crossing, lower_of, upper_of, chosen, exchanged_word, exchanged_from, exchanged, five_rounds}

-- ---- a block up or down changes the bit at w
block-less : (w k : ℕ) → 0 < w → w ≤ k → k / w ≡ (k - w) / w + 1
block-less w k h l = ap (λ (x : ℕ). x / w) (back w k l) ∙ add-div_right (k - w) h
  where
    back : (w k : ℕ) → w ≤ k → k ≡ k - w + w
    back w k l = omega arith

below-even : (w k : ℕ) → 0 < w → at w k ≡ 0 → w ≤ k → at w (k - w) ≡ 1
below-even w k h e l = let f : k / w ≡ (k - w) / w + 1 = block-less w k h l in omega arith

below-odd : (w k : ℕ) → 0 < w → at w k ≡ 1 → (w ≤ k) × (at w (k - w) ≡ 0)
below-odd w k h e = by-test (below_or k w)
  where
    by-test : (k < w) ⊎ (w ≤ k) → (w ≤ k) × (at w (k - w) ≡ 0)
    by-test (inl s) = let z : k / w ≡ 0 = div-eq_of_lt s in (omega arith, omega arith)
    by-test (inr l) = let f : k / w ≡ (k - w) / w + 1 = block-less w k h l in (l, omega arith)

-- ---- a word after the round, bit by bit
whole : (w : ℕ) → w ≤ 16 → 32 - w + w ≤ 32
whole w h = omega arith

module _ (w : ℕ) (v : Width w) (x y : ℕ) where
  -- what is crossed at k, in even blocks and in odd ones
  crossing-even : (k : ℕ) → k < 32 → at w k ≡ 0 → bit_at k (crossing w x y) ≡ differ (bit_at (w + k) x) (bit_at k y)
  unfolding crossing
  crossing-even k h e =
      kept k (bit_xor (x / 2 ^ w) y) (mask_of w) (mask-bit w k v h 0 e) ∙ bit-xor k (x / 2 ^ w) y ∙ ap (λ (b : ℕ). differ b (bit_at k y)) (bit-shr k w x)

  crossing-odd : (k : ℕ) → k < 32 → at w k ≡ 1 → bit_at k (crossing w x y) ≡ 0
  unfolding crossing
  crossing-odd k h e = cut k (bit_xor (x / 2 ^ w) y) (mask_of w) (mask-bit w k v h 1 e)

  crossing-le : crossing w x y ≤ mask_of w
  unfolding crossing
  crossing-le = and_le_r (bit_xor (x / 2 ^ w) y) (mask_of w)

  -- the same a block up
  up-plain : crossing w x y * 2 ^ w % 2 ^ 32 ≡ crossing w x y * 2 ^ w
  up-plain = shl_exact (32 - w) w 32 (lt_of_le_of_lt crossing-le (sizes w v).room) (whole w (sizes w v).small)

  up-bit : (k : ℕ) → w ≤ k → bit_at k (crossing w x y * 2 ^ w % 2 ^ 32) ≡ bit_at (k - w) (crossing w x y)
  up-bit k l =
      let s : k ≡ w + (k - w) = omega arith in
      ap (bit_at k) up-plain ∙ ap (λ (z : ℕ). bit_at z (crossing w x y * 2 ^ w)) s ∙ bit-shl (k - w) w (crossing w x y)

  up-even : (k : ℕ) → k < 32 → at w k ≡ 0 → (k < w) ⊎ (w ≤ k) → bit_at k (crossing w x y * 2 ^ w % 2 ^ 32) ≡ 0
  up-even k h e (inl l) = ap (bit_at k) up-plain ∙ bit-shl-low k w (crossing w x y) l
  up-even k h e (inr l) = up-bit k l ∙ crossing-odd (k - w) (omega arith) (below-even w k (sizes w v).above e l)

  up-odd : (k : ℕ) → k < 32 → at w k ≡ 1 → bit_at k (crossing w x y * 2 ^ w % 2 ^ 32) ≡ differ (bit_at k x) (bit_at (k - w) y)
  up-odd k h e =
      let u : (w ≤ k) × (at w (k - w) ≡ 0) = below-odd w k (sizes w v).above e in
      let s : w + (k - w) ≡ k = omega arith in
      up-bit k u.0 ∙ crossing-even (k - w) (omega arith) u.1 ∙ ap (λ (n : ℕ). differ (bit_at n x) (bit_at (k - w) y)) s

  lower-bit : (k : ℕ) → k < 32 → bit_at k (lower_of w x y) ≡ differ (bit_at k x) (bit_at k (crossing w x y * 2 ^ w % 2 ^ 32))
  unfolding lower_of
  lower-bit k h =
      bit-xor k (x % 2 ^ 32) (crossing w x y * 2 ^ w % 2 ^ 32) ∙ ap (λ (b : ℕ). differ b (bit_at k (crossing w x y * 2 ^ w % 2 ^ 32))) (bit-mod k 32 x h)

  lower-even : (k : ℕ) → k < 32 → at w k ≡ 0 → bit_at k (lower_of w x y) ≡ bit_at k x
  lower-even k h e = lower-bit k h ∙ ap (differ (bit_at k x)) (up-even k h e (below_or k w)) ∙ differ-none (bit_at k x)

  lower-odd : (k : ℕ) → k < 32 → at w k ≡ 1 → bit_at k (lower_of w x y) ≡ bit_at (k - w) y
  lower-odd k h e =
      lower-bit k h ∙ ap (differ (bit_at k x)) (up-odd k h e) ∙ (digits-differ (bit_at k x) (bit_at (k - w) y) (bit-lt k x) (bit-lt (k - w) y)).1

  upper-bit : (k : ℕ) → k < 32 → bit_at k (upper_of w x y) ≡ differ (bit_at k y) (bit_at k (crossing w x y))
  unfolding upper_of
  upper-bit k h = bit-xor k (y % 2 ^ 32) (crossing w x y) ∙ ap (λ (b : ℕ). differ b (bit_at k (crossing w x y))) (bit-mod k 32 y h)

  upper-even : (k : ℕ) → k < 32 → at w k ≡ 0 → bit_at k (upper_of w x y) ≡ bit_at (k + w) x
  upper-even k h e =
      upper-bit k h ∙ ap (differ (bit_at k y)) (crossing-even k h e)
      ∙ (digits-differ (bit_at (w + k) x) (bit_at k y) (bit-lt (w + k) x) (bit-lt k y)).2 ∙ ap (λ (z : ℕ). bit_at z x) (add_comm w k)

  upper-odd : (k : ℕ) → k < 32 → at w k ≡ 1 → bit_at k (upper_of w x y) ≡ bit_at k y
  upper-odd k h e = upper-bit k h ∙ ap (differ (bit_at k y)) (crossing-odd k h e) ∙ differ-none (bit_at k y)

  lower-lt : lower_of w x y < 2 ^ 32
  unfolding lower_of
  lower-lt = xor_lt 32 (x % 2 ^ 32) (crossing w x y * 2 ^ w % 2 ^ 32) (mod-lt x (pow_pos 32)) (mod-lt (crossing w x y * 2 ^ w) (pow_pos 32))

  upper_lt : upper_of w x y < 2 ^ 32
  unfolding upper_of
  upper_lt = xor_lt 32 (y % 2 ^ 32) (crossing w x y) (mod-lt y (pow_pos 32)) (lt_of_le_of_lt crossing-le (sizes w v).fits)

-- ---- a group after the round
pub even_odd : (w i : ℕ) → (at w i ≡ 0) ⊎ (at w i ≡ 1)
even_odd w i = two (at w i) (at_lt w i)

-- where bit j of word i comes from, by the bits at w of both
module _ (w i j : ℕ) (ts : List ℕ) (v : Width w) (hj : j < 32) where
  came : (b x y : ℕ) → at w i ≡ b → taking w j i ≡ x → taking w i j ≡ y
      → bit_at j (chosen b (lower_of w (get_or ts i 0) (get_or ts (i + w) 0)) (upper_of w (get_or ts (i - w) 0) (get_or ts i 0))) ≡ bit_at x (get_or ts y 0)
      → bit_at j (exchanged_word w ts i) ≡ bit_at (taking w j i) (get_or ts (taking w i j) 0)
  unfolding exchanged_word
  came b x y e p q h =
      ap (λ (n : ℕ). bit_at j (chosen n (lower_of w (get_or ts i 0) (get_or ts (i + w) 0)) (upper_of w (get_or ts (i - w) 0) (get_or ts i 0)))) e
      ∙ h ∙ ap₂ (λ (m n : ℕ). bit_at m (get_or ts n 0)) (sym p) (sym q)

  by_bits : (at w i ≡ 0) ⊎ (at w i ≡ 1) → (at w j ≡ 0) ⊎ (at w j ≡ 1) → bit_at j (exchanged_word w ts i) ≡ bit_at (taking w j i) (get_or ts (taking w i j) 0)
  by_bits (inl e) (inl f) = came 0 j i e (taking-same w j i 0 f e) (taking-same w i j 0 e f) (lower-even w v (get_or ts i 0) (get_or ts (i + w) 0) j hj f)
  by_bits (inl e) (inr f) = came 0 (j - w) (i + w) e (taking-down w j i f e) (taking-up w i j e f) (lower-odd w v (get_or ts i 0) (get_or ts (i + w) 0) j hj f)
  by_bits (inr e) (inl f) = came 1 (j + w) (i - w) e (taking-up w j i f e) (taking-down w i j e f) (upper-even w v (get_or ts (i - w) 0) (get_or ts i 0) j hj f)
  by_bits (inr e) (inr f) = came 1 j i e (taking-same w j i 1 f e) (taking-same w i j 1 e f) (upper-odd w v (get_or ts (i - w) 0) (get_or ts i 0) j hj f)

  -- from the place whose row and column have exchanged their bit at w
  pub word-bit : bit_at j (exchanged_word w ts i) ≡ bit_at (taking w j i) (get_or ts (taking w i j) 0)
  word-bit = by_bits (even_odd w i) (even_odd w j)

word_lt : (w i : ℕ) (ts : List ℕ) → Width w → exchanged_word w ts i < 2 ^ 32
unfolding exchanged_word
word_lt w i ts v = one_of (at w i)
  where
    one_of : (n : ℕ) → chosen n (lower_of w (get_or ts i 0) (get_or ts (i + w) 0)) (upper_of w (get_or ts (i - w) 0) (get_or ts i 0)) < 2 ^ 32
    one_of zero = lower-lt w v (get_or ts i 0) (get_or ts (i + w) 0)
    one_of (suc n) = upper_lt w v (get_or ts (i - w) 0) (get_or ts i 0)

from-length : (n i w : ℕ) (ts : List ℕ) → length (exchanged_from n i w ts) ≡ n
unfolding exchanged_from
from-length zero i w ts = refl
from-length (suc n) i w ts = ap suc (from-length n (suc i) w ts)

from_at : (n i w k : ℕ) (ts : List ℕ) → k < n → get_or (exchanged_from n i w ts) k 0 ≡ exchanged_word w ts (i + k)
unfolding exchanged_from
from_at zero i w k ts h = absurd (not-suc-le-zero h)
from_at (suc n) i w zero ts h = ap (exchanged_word w ts) (omega arith)
from_at (suc n) i w (suc k) ts h = from_at n (suc i) w k ts (le_of_suc-le-suc h) ∙ ap (exchanged_word w ts) (omega arith)

pub exchanged-length : (w : ℕ) (ts : List ℕ) → length (exchanged w ts) ≡ 32
exchanged-length w ts = from-length 32 0 w ts

pub exchanged-at : (w k : ℕ) (ts : List ℕ) → k < 32 → get_or (exchanged w ts) k 0 ≡ exchanged_word w ts k
exchanged-at w k ts h = from_at 32 0 w k ts h ∙ ap (exchanged_word w ts) (zero-add k)

-- ---- the rounds
-- bit j of word i of us is the bit of ts at the place whose row and column have exchanged their index bits at w and above
abbrev pub Held : ℕ → List ℕ → List ℕ → Type 0
Held w ts us = (i j : ℕ) → i < 32 → j < 32 → bit_at j (get_or us i 0) ≡ bit_at (mixed w j i) (get_or ts (mixed w i j) 0)

inside : (w i j : ℕ) → Width w → i < 32 → taking w i j < 32
inside w i j v h =
    subst (λ (x : ℕ). taking w i j < x) (sizes w v).whole
    (taking-lt w i j (16 / w) (sizes w v).above (subst (λ (x : ℕ). i < x) (sym (sizes w v).whole) h))

-- THE LAW OF A ROUND, over its width
pub round : (w : ℕ) (ts us : List ℕ) → Width w → Held (2 * w) ts us → Held w ts (exchanged w us)
round w ts us v held i j hi hj =
    ap (bit_at j) (exchanged-at w i us hi) ∙ word-bit w i j us v hj
    ∙ held (taking w i j) (taking w j i) (inside w i j v hi) (inside w j i v hj)
    ∙ ap₂ (λ (x y : ℕ). bit_at x (get_or ts y 0)) (mixed-taking w j i (sizes w v).above) (mixed-taking w i j (sizes w v).above)

begin : (ts : List ℕ) → Held 32 ts ts
begin ts i j hi hj =
    let a : mixed 32 j i ≡ j = omega arith in
    let b : mixed 32 i j ≡ i = omega arith in
    ap₂ (λ (x y : ℕ). bit_at x (get_or ts y 0)) (sym a) (sym b)

five-held : (ts : List ℕ) → Held 1 ts (five_rounds ts)
five-held ts = round 1 ts _ by1 (round 2 ts _ by2 (round 4 ts _ by4 (round 8 ts _ by8 (round 16 ts _ by16 (begin ts)))))

-- no premise on the words: after a round each is below 2 ^ 32 by its masks
pub five-rounds : (ts : List ℕ) → length ts ≡ 32 → five_rounds ts ≡ turned_group ts
five-rounds ts l =
    group-is 32 ts (five_rounds ts) l (exchanged-length 1 _)
    (λ i h. subst (λ (x : ℕ). x < 2 ^ 32) (sym (exchanged-at 1 i _ h)) (word_lt 1 i _ by1))
    (λ i j hi hj.
    let a : mixed 1 j i ≡ i = omega arith in
    let b : mixed 1 i j ≡ j = omega arith in
    five-held ts i j hi hj ∙ ap₂ (λ (x y : ℕ). bit_at x (get_or ts y 0)) a b)
