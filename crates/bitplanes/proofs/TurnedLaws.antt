-- Turning, at every length: what Promise claims. A list and its turned list have each bit at its place in the other, and only one list has them there;
-- so turning again gives the list back.
use Rattle.std.specs.Prelude.{◌≡◌, Bool, cond, ◌⊎◌, List, ◌++◌, ℕ, ◌+◌, ◌-◌, ◌*◌, ◌/◌, ◌%◌, ◌^◌, ◌≤◌, ◌<◌, ltb, length, get_or, take, drop, Result, Ok, Err}
use Rattle.bitplanes.specs.declared.TooShort.{TooShort}
use Rattle.std.proofs.Common.{sym, ap, ap₂, ◌∙◌, subst, inl, inr, append-nil, arith, le-ltb, length-drop, drop_of_length-le, take_all, ext_get_or, get_or-take, get_or-drop, length-take-le}
use Rattle.bits.specs.Bits.{bit_at}
use Rattle.bitplanes.specs.Turned.{turned_group, in_groups, turned, filled}
use Rattle.bitplanes.specs.Promise.{Words, Placed, EachBitPlaced, OnlyTurned, WordsKept, TurnsBack, ReadBack}
use Rattle.bits.proofs.BitLaws.{below_or, bits-same}
use Rattle.bitplanes.proofs.PlaneLaws.{planes-length, group-bit, group-lt}
use Rattle.bitplanes.proofs.GroupLaws.{Keeps, groups-length, groups-at, groups-rest}

pub group-keeps : Keeps 32 turned_group
group-keeps g l = planes-length 32 0 g

pub turned-length : (ts : List ℕ) → length (turned ts) ≡ length ts
turned-length ts = groups-length 32 turned_group group-keeps (length ts / 32) ts (omega arith)

-- the words of group g
abbrev group_at : List ℕ → ℕ → List ℕ
group_at ts g = take 32 (drop (g * 32) ts)

module _ (ts : List ℕ) (g : ℕ) (hg : g < length ts / 32) where
  group-long : length (group_at ts g) ≡ 32
  group-long = length-take-le 32 (drop (g * 32) ts) (subst (λ (x : ℕ). 32 ≤ x) (sym (length-drop (g * 32) ts)) (omega arith))

  turned-at : (j : ℕ) → j < 32 → get_or (turned ts) (g * 32 + j) 0 ≡ get_or (turned_group (group_at ts g)) j 0
  turned-at j hj = groups-at 32 turned_group group-keeps (length ts / 32) ts g j (omega arith) hg hj

  turned_bit : (i j : ℕ) → i < 32 → j < 32 → bit_at i (get_or (turned ts) (g * 32 + j) 0) ≡ bit_at j (get_or ts (g * 32 + i) 0)
  turned_bit i j hi hj =
      ap (bit_at i) (turned-at j hj) ∙ group-bit 32 i j (group_at ts g) hj
      ∙ ap (bit_at j) (get_or-take 32 (drop (g * 32) ts) i 0 hi ∙ get_or-drop (g * 32) ts i 0)

-- each bit is at its place
pub each-bit-placed : EachBitPlaced
each-bit-placed ts =
    record {
      long = turned-length ts;
      bits = λ g i j hg hi hj. turned_bit ts g hg i j hi hj;
      rest = groups-rest 32 turned_group group-keeps (length ts / 32) ts (omega arith);
    }

-- ---- words in groups, and words behind them
in_group : (k : ℕ) → k ≡ k / 32 * 32 + k % 32
in_group k = omega arith

behind-groups : (n k : ℕ) → n / 32 * 32 ≤ k → k ≡ n / 32 * 32 + (k - n / 32 * 32)
behind-groups n k h = omega arith

pub words-kept : WordsKept
words-kept ts w k h = by_place (below_or k (length ts / 32 * 32))
  where
    l : k < length ts
    l = subst (λ (x : ℕ). k < x) (turned-length ts) h

    by_place : (k < length ts / 32 * 32) ⊎ (length ts / 32 * 32 ≤ k) → get_or (turned ts) k 0 < 2 ^ 32
    by_place (inl b) =
        subst (λ (x : ℕ). x < 2 ^ 32)
        (sym (ap (λ (x : ℕ). get_or (turned ts) x 0) (in_group k) ∙ turned-at ts (k / 32) (omega arith) (k % 32) (omega arith)))
        (group-lt 32 (k % 32) (group_at ts (k / 32)) (group-long ts (k / 32) (omega arith)) (omega arith))
    by_place (inr b) = subst (λ (x : ℕ). x < 2 ^ 32) (sym stays) (w k l)
      where
        stays : get_or (turned ts) k 0 ≡ get_or ts k 0
        stays =
            ap (λ (x : ℕ). get_or (turned ts) x 0) (behind-groups (length ts) k b)
            ∙ sym (get_or-drop (length ts / 32 * 32) (turned ts) (k - length ts / 32 * 32) 0)
            ∙ ap (λ (xs : List ℕ). get_or xs (k - length ts / 32 * 32) 0) (each-bit-placed ts).rest
            ∙ get_or-drop (length ts / 32 * 32) ts (k - length ts / 32 * 32) 0
            ∙ ap (λ (x : ℕ). get_or ts x 0) (sym (behind-groups (length ts) k b))

-- two lists of words with the bits of ts at the same places are the same
module _ (ts us vs : List ℕ) (wu : Words us) (wv : Words vs) (pu : Placed ts us) (pv : Placed ts vs) where
  same_word : (k : ℕ) → k < length ts → (k < length ts / 32 * 32) ⊎ (length ts / 32 * 32 ≤ k) → get_or us k 0 ≡ get_or vs k 0
  same_word k l (inl b) =
      bits-same 32 (get_or us k 0) (get_or vs k 0) (wu k (subst (λ (x : ℕ). k < x) (sym pu.long) l)) (wv k (subst (λ (x : ℕ). k < x) (sym pv.long) l))
      (λ i hi.
      ap (λ (x : ℕ). bit_at i (get_or us x 0)) (in_group k)
      ∙ pu.bits (k / 32) i (k % 32) (omega arith) hi (omega arith) ∙ sym (pv.bits (k / 32) i (k % 32) (omega arith) hi (omega arith))
      ∙ ap (λ (x : ℕ). bit_at i (get_or vs x 0)) (sym (in_group k)))
  same_word k l (inr b) =
      let m : ℕ = length ts / 32 * 32 in
      ap (λ (x : ℕ). get_or us x 0) (behind-groups (length ts) k b) ∙ sym (get_or-drop m us (k - m) 0)
      ∙ ap (λ (xs : List ℕ). get_or xs (k - m) 0) (pu.rest ∙ sym pv.rest)
      ∙ get_or-drop m vs (k - m) 0 ∙ ap (λ (x : ℕ). get_or vs x 0) (sym (behind-groups (length ts) k b))

  placed_same : us ≡ vs
  placed_same =
      ext_get_or 0 us vs (pu.long ∙ sym pv.long)
      (λ k h. let l : k < length ts = subst (λ (x : ℕ). k < x) pu.long h in same_word k l (below_or k (length ts / 32 * 32)))

-- turning is the only thing done
pub only-turned : OnlyTurned
only-turned ts us wt wu p = placed_same ts us (turned ts) wu (words-kept ts wt) p (each-bit-placed ts)

-- what has the bits of ts at their places has its own at theirs in ts
placed-back : (ts us : List ℕ) → Placed ts us → Placed us ts
placed-back ts us p =
    record {
      long = sym p.long;
      bits = λ g i j hg hi hj. sym (p.bits g j i (subst (λ (x : ℕ). g < x / 32) p.long hg) hj hi);
      rest = subst (λ (x : ℕ). drop (x / 32 * 32) ts ≡ drop (x / 32 * 32) us) (sym p.long) (sym p.rest);
    }

-- THE LAW: turning again gives the list back
pub turned-back : TurnsBack
turned-back ts w = sym (only-turned (turned ts) ts (words-kept ts w) w (placed-back ts (turned ts) (each-bit-placed ts)))

pub read_back_lem : ReadBack
read_back_lem ts old w h =
    let again : List ℕ = turned (turned ts) in
    ap (λ (n : ℕ). cond (ltb (length old) n) (Err (record {}), old) (Ok tt, again ++ drop n old)) (turned-length ts)
    ∙ ap (λ (b : Bool). cond b (Err (record {}), old) (Ok tt, again ++ drop (length ts) old)) (le-ltb (length old) (length ts) h)
    ∙ ap (λ (l : List ℕ). (Ok tt, l ++ drop (length ts) old)) (turned-back ts w)

-- ---- for callers
-- what a call leaves in an output that is long enough
pub filled-long : (input all old new : List ℕ) (r : Result Unit TooShort) → length input ≤ length old → (r, new) ≡ filled input all old → (r ≡ Ok tt) × (new ≡ all ++ drop (length input) old)
filled-long input all old new r h e =
    let f : ◌≡◌ {A = Result Unit TooShort × List ℕ} (r, new) (Ok tt, all ++ drop (length input) old) =
    e ∙ ap (λ (b : Bool). cond b (Err (record {}), old) (Ok tt, all ++ drop (length input) old)) (le-ltb (length old) (length input) h) in
    (ap (λ (p : Result Unit TooShort × List ℕ). p.0) f, ap (λ (p : Result Unit TooShort × List ℕ). p.1) f)

-- one group alone
pub turned-one : (ts : List ℕ) → length ts ≡ 32 → turned ts ≡ turned_group ts
unfolding in_groups
turned-one ts l =
    ap (λ (n : ℕ). in_groups 32 turned_group (n / 32) ts) l
    ∙ ap₂ (λ (x y : List ℕ). turned_group x ++ y) (take_all 32 ts (omega arith)) (drop_of_length-le ts {i = 32} (omega arith)) ∙ append-nil (turned_group ts)
