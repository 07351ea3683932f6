-- Laws about the rows: how the check of every slot goes on, and where the defaults stand.
use Rattle.std.specs.Prelude.{◌≡◌, refl, min, Option, Some, None, MatchOption, Bool, true, false, cond, List, [], ◌∷◌, ℕ, zero, suc, ◌+◌, ◌<◌, ◌≤◌, ltb, ℤ, pos, length, get_or, drop}
use Rattle.integers.specs.TestLaws.{clash}
use Rattle.std.proofs.lemmas.Option.{same_Some, none-some}
use Rattle.std.proofs.Common.{sym, ltb-false, lt-ltb, le-ltb, add-one, add-zero, zero-add, add-suc, suc-add, arith, ltb-true, drop_of_length-le}
use Rattle.std.proofs.Math.Nat.{min-eq_left, min-eq_right}
use Rattle.std.proofs.Math.Seq.{drop-cons}
use Rattle.parameters.specs.Rows.{default, row_of, row_at, in_range, out_from, lowest_out, slot_out_of, defaults_from, default_table}

-- a slot's row is the slot, and the last for a point
pub row-least : (slot : ℕ) → min slot 56 ≡ row_of slot
unfolding row_of
row-least slot = by (ltb slot 56) refl
  where
    by : (b : Bool) → ltb slot 56 ≡ b → min slot 56 ≡ cond b slot 56
    by true e = min-eq_left (omega (arith, ltb-true slot 56 e))
    by false e = min-eq_right (ltb-false slot 56 e)

pub row_below : (slot : ℕ) → row_of slot < 57
unfolding row_of
row_below slot = go (ltb slot 56) refl
  where
    go : (b : Bool) → ltb slot 56 ≡ b → cond b slot 56 < 57
    go true e = omega (arith, ltb-true slot 56 e)
    go false e = omega arith

-- one slot is looked at: in range, the check goes on; out of range, it is the answer; past the end there is none
module _ (t : List ℤ) (i : ℕ) (h : i < length t) where
  pub out-next : in_range i (get_or t i (pos 0)) ≡ true → out_from i (drop i t) ≡ out_from (i + 1) (drop (i + 1) t)
  unfolding out_from
  out-next e = rw (add-one, drop-cons t i (pos 0), e)

  pub out-here : in_range i (get_or t i (pos 0)) ≡ false → out_from i (drop i t) ≡ i
  unfolding out_from
  out-here e = rw (drop-cons t i (pos 0), e)

pub out_none : (t : List ℤ) (i : ℕ) → length t ≤ i → out_from i (drop i t) ≡ i
unfolding out_from
out_none t i h = rw (drop_of_length-le t h)

out-least : (i : ℕ) (l : List ℤ) → i ≤ out_from i l
unfolding out_from
out-least i [] = omega arith
out-least i (v ∷ vs) = go (in_range i v) (out-least (suc i) vs)
  where
    go : (b : Bool) → suc i ≤ out_from (suc i) vs → i ≤ cond b (out_from (suc i) vs) i
    go true h = omega arith
    go false h = omega arith

-- every slot below the lowest one out of range is in range, and that one is not
below_out : (i : ℕ) (l : List ℤ) (k : ℕ) → i + k < out_from i l → k < length l → in_range (i + k) (get_or l k (pos 0)) ≡ true
unfolding out_from
below_out i [] k e h = absurd (omega arith)
below_out i (v ∷ vs) zero e h = go (in_range i v) refl e
  where
    go : (b : Bool) → in_range i v ≡ b → i + 0 < cond b (out_from (suc i) vs) i → in_range (i + 0) v ≡ true
    go true p e = rw add-zero p
    go false p e = absurd (omega arith)
below_out i (v ∷ vs) (suc k) e h = go (in_range i v) e (λ l. below_out (suc i) vs k l (omega arith))
  where
    go : (b : Bool) → i + suc k < cond b (out_from (suc i) vs) i → (suc i + k < out_from (suc i) vs → in_range (suc i + k) (get_or vs k (pos 0)) ≡ true) → in_range (i + suc k) (get_or vs k (pos 0)) ≡ true
    go true e r = rw (add-suc, ← suc-add) (r (omega arith))
    go false e r = absurd (omega arith)

at_out : (i : ℕ) (l : List ℤ) (k : ℕ) → out_from i l ≡ i + k → k < length l → in_range (i + k) (get_or l k (pos 0)) ≡ false
unfolding out_from
at_out i [] k e h = absurd (omega arith)
at_out i (v ∷ vs) zero e h = go (in_range i v) refl e
  where
    go : (b : Bool) → in_range i v ≡ b → cond b (out_from (suc i) vs) i ≡ i + 0 → in_range (i + 0) v ≡ false
    go true p e = absurd (omega (arith, out-least (suc i) vs))
    go false p e = rw add-zero p
at_out i (v ∷ vs) (suc k) e h = go (in_range i v) e (λ l. at_out (suc i) vs k l (omega arith))
  where
    go : (b : Bool) → cond b (out_from (suc i) vs) i ≡ i + suc k → (out_from (suc i) vs ≡ suc i + k → in_range (suc i + k) (get_or vs k (pos 0)) ≡ false) → in_range (i + suc k) (get_or vs k (pos 0)) ≡ false
    go true e r = rw (add-suc, ← suc-add) (r (omega arith))
    go false e r = absurd (omega arith)

pub below-lowest : (t : List ℤ) (k : ℕ) → k < lowest_out t → k < length t → in_range k (get_or t k (pos 0)) ≡ true
below-lowest t k e h = rw zero-add at (below_out 0 t k (omega arith) h)

pub at-lowest : (t : List ℤ) → lowest_out t < length t → in_range (lowest_out t) (get_or t (lowest_out t) (pos 0)) ≡ false
at-lowest t h = rw zero-add at (at_out 0 t (lowest_out t) (omega arith) h)

-- the default of a slot stands in its place
defaults-at : (i n k : ℕ) → k < n → get_or (defaults_from i n) k (pos 0) ≡ default (row_at (i + k))
unfolding defaults_from
defaults-at i zero k h = absurd (omega arith)
defaults-at i (suc n) zero h = rw add-zero
defaults-at i (suc n) (suc k) h = rw (add-suc, ← suc-add) (defaults-at (suc i) n k (omega arith))

pub default-at : (k : ℕ) → k < 104 → get_or default_table k (pos 0) ≡ default (row_at k)
unfolding default_table
default-at k h = rw zero-add at (defaults-at 0 104 k h)

pub default-length : length default_table ≡ 104
unfolding default_table defaults_from
default-length = refl

-- the lowest slot out of range, by what holds of it
lowest-is : (t : List ℤ) (slot : ℕ) → slot < length t → in_range slot (get_or t slot (pos 0)) ≡ false →
    ((k : ℕ) → 0 ≤ k → k < slot → in_range k (get_or t k (pos 0)) ≡ true) → lowest_out t ≡ slot
lowest-is t slot b out below = by (ltb (lowest_out t) slot) refl (ltb slot (lowest_out t)) refl
  where
    by : (l : Bool) → ltb (lowest_out t) slot ≡ l → (h : Bool) → ltb slot (lowest_out t) ≡ h → lowest_out t ≡ slot
    by true l h' h = absurd (clash (at-lowest t (omega (arith, ltb-true (lowest_out t) slot l))) (below (lowest_out t) (omega arith) (ltb-true (lowest_out t) slot l)))
    by false l true h = absurd (clash out (below-lowest t slot (ltb-true slot (lowest_out t) h) b))
    by false l false h = omega (arith, ltb-false (lowest_out t) slot l, ltb-false slot (lowest_out t) h)

none-out : (t : List ℤ) → ((k : ℕ) → 0 ≤ k → k < length t → in_range k (get_or t k (pos 0)) ≡ true) → length t ≤ lowest_out t
none-out t all = by (ltb (lowest_out t) (length t)) refl
  where
    by : (l : Bool) → ltb (lowest_out t) (length t) ≡ l → length t ≤ lowest_out t
    by true l = let low = ltb-true (lowest_out t) (length t) l in absurd (clash (at-lowest t low) (all (lowest_out t) (omega arith) low))
    by false l = ltb-false (lowest_out t) (length t) l

-- what a search over the slots finds
pub found-slot : (t : List ℤ) → length t ≡ 104 → (found : Option ℕ) →
    MatchOption found ((k : ℕ) → 0 ≤ k → k < 104 → in_range k (get_or t k (pos 0)) ≡ true)
    (λ slot. (0 ≤ slot) × (slot < 104) × (in_range slot (get_or t slot (pos 0)) ≡ false) × ((k : ℕ) → 0 ≤ k → k < slot → in_range k (get_or t k (pos 0)) ≡ true)) →
    found ≡ slot_out_of t
unfolding slot_out_of
found-slot t e None all = rw (le-ltb (lowest_out t) 104 (omega (arith, none-out t (λ k l h. all k l (omega arith)))))
found-slot t e (Some slot) f =
    let is = lowest-is t slot (omega arith) f.2 f.3 in
    rw (is, lt-ltb slot 104 f.1)

-- and what it found is the lowest slot out of range, or none is
pub found-lowest : (t : List ℤ) (slot : ℕ) → slot_out_of t ≡ Some slot → (lowest_out t ≡ slot) × (lowest_out t < 104)
unfolding slot_out_of
found-lowest t slot = by (ltb (lowest_out t) 104) refl
  where
    by : (b : Bool) → ltb (lowest_out t) 104 ≡ b → cond b (Some (lowest_out t)) None ≡ Some slot → (lowest_out t ≡ slot) × (lowest_out t < 104)
    by true e is = (same_Some _ _ is, ltb-true (lowest_out t) 104 e)
    by false e is = absurd (none-some slot is)

pub found-none : (t : List ℤ) → slot_out_of t ≡ None → 104 ≤ lowest_out t
unfolding slot_out_of
found-none t = by (ltb (lowest_out t) 104) refl
  where
    by : (b : Bool) → ltb (lowest_out t) 104 ≡ b → cond b (Some (lowest_out t)) None ≡ None → 104 ≤ lowest_out t
    by true e is = absurd (none-some _ (sym is))
    by false e is = ltb-false (lowest_out t) 104 e
