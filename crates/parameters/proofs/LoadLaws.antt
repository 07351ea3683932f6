-- A load's number is the first condition's: each number is returned in its own condition and in no other. The defaults load.
-- Paper 01, "Where each check sits", load.
use Rattle.std.specs.Prelude.{◌≡◌, refl, Option, Some, None, is_some, zero, ◌+◌, [], ◌∷◌, Bool, true, false, not, ◌&&◌, ◌||◌, cond, List, ℕ, suc, ◌-◌, ◌<◌, ◌≤◌, eqb, ℤ, pos, negsuc, length, get_or}
use Rattle.std.proofs.Common.{lit<, sym, ◌∙◌, ap, arith}
use mir.Syntax.{w32}
use mir.Val.{SFits, of_z}
use Rattle.integers.specs.IntLaws.{same_bits}
use borrow.Author.Tests.{eqb-false, eq-eqb, ne_eqb, eqb-true, ltb-true, lt-ltb, le-ltb, not-false}
use Rattle.parameters.specs.Rows.{lowest_out, out_from, row_of, row_at, in_range, defaults_from, default_table}
use Rattle.parameters.proofs.RowLaws.{below-lowest, at-lowest}
use Rattle.parameters.specs.Slots.{word_at}
use Rattle.integers.specs.Choice.{some}
use Rattle.parameters.specs.Search.{first_of}
use Rattle.parameters.specs.SearchLaws.{first-least, first-own, first-only, first-none, none_first}
use Rattle.std.proofs.lemmas.Option.{none-some}
use Rattle.parameters.specs.declared.Refusal.{Refusal}
use Rattle.parameters.specs.Refusals.{number_told, slot_told, refusal_by}
use Rattle.parameters.specs.Load.{same_z, words_missing, slot_out, field_wrong, error_bit_wrong, span_empty, not_above, points_not_rising, origin_missing, frozen_by_edge, freeze_on_edge, differ, differs_from, polarities_differ, conflicts, conditions, condition, load_refusal, load_slot, refused_with, load_of}

-- the test of two whole numbers tells whether they are equal
pub same-yes : (a b : ℤ) → a ≡ b → same_z a b ≡ true
same-yes (pos a) (pos b) e = eq-eqb a b cc
same-yes (negsuc a) (negsuc b) e = eq-eqb a b cc
same-yes (pos a) (negsuc b) e = cc
same-yes (negsuc a) (pos b) e = cc

pub same-no : (a b : ℤ) → (a ≡ b → ⊥) → same_z a b ≡ false
same-no (pos a) (pos b) n = ne_eqb a b (λ e. n (ap pos e))
same-no (negsuc a) (negsuc b) n = ne_eqb a b (λ e. n (ap negsuc e))
same-no (pos a) (negsuc b) n = refl
same-no (negsuc a) (pos b) n = refl

pub same_true : (a b : ℤ) → same_z a b ≡ true → a ≡ b
same_true (pos a) (pos b) e = ap pos (eqb-true a b e)
same_true (negsuc a) (negsuc b) e = ap negsuc (eqb-true a b e)
same_true (pos a) (negsuc b) e = cc
same_true (negsuc a) (pos b) e = cc

-- and the test of their bits
pub bits-same : {a b : ℤ} → SFits w32 a → SFits w32 b → eqb (of_z w32 a) (of_z w32 b) ≡ same_z a b
bits-same {a} {b} f g = by (eqb (of_z w32 a) (of_z w32 b)) refl
  where
    by : (t : Bool) → eqb (of_z w32 a) (of_z w32 b) ≡ t → t ≡ same_z a b
    by true e = sym (same-yes a b (same_bits f g (eqb-true _ _ e)))
    by false e = sym (same-no a b (λ is. eqb-false _ _ e (ap (of_z w32) is)))

pub bits-zero : {a : ℤ} → SFits w32 a → eqb (of_z w32 a) 0 ≡ same_z a (pos 0)
bits-zero {a} f = bits-same {a = a} {b = pos 0} f (record { sfits = lit< tt })

pub not-both : (a b : Bool) → (not a || not b) ≡ not (a && b)
not-both true b = refl
not-both false b = refl

-- what load answers, stage by stage
module _ (t : List ℤ) where
  pub load-length : (length t ≡ 104 → ⊥) → load_of t ≡ refused_with 1 0
  unfolding load_of load_slot load_refusal conditions words_missing first_of
  load-length h = rw (ne_eqb (length t) 104 h)

  pub load-range : length t ≡ 104 → lowest_out t < 104 → load_of t ≡ refused_with 2 (lowest_out t)
  unfolding load_of load_slot load_refusal conditions words_missing slot_out first_of
  load-range e h = rw (eq-eqb (length t) 104 e, lt-ltb (lowest_out t) 104 h)

  passed : length t ≡ 104 → 104 ≤ lowest_out t → load_refusal t ≡ first_of 3 (conflicts t)
  unfolding load_refusal conditions words_missing slot_out first_of
  passed e h = rw (eq-eqb (length t) 104 e, le-ltb (lowest_out t) 104 h)

  pub load-conflict : length t ≡ 104 → 104 ≤ lowest_out t → (first_of 3 (conflicts t) ≡ 0 → ⊥) → load_of t ≡ refused_with (first_of 3 (conflicts t)) 0
  unfolding load_of load_slot
  load-conflict e h n =
      rw (passed e h, ne_eqb (first_of 3 (conflicts t)) 0 n, ne_eqb (first_of 3 (conflicts t)) 2 (λ q. omega (arith, first-least 3 (conflicts t) n)))

  pub load-fine : length t ≡ 104 → 104 ≤ lowest_out t → first_of 3 (conflicts t) ≡ 0 → load_of t ≡ record { refusal = None; table = t }
  unfolding load_of
  load-fine e h z = rw (passed e h, z)

one_less : (n : ℕ) → suc n - 1 ≡ n
one_less n = omega arith

-- condition n is met and none before it is
pub record Refused (t : List ℤ) (n : ℕ) : Type 0 where
  pub own : condition t n ≡ true
  pub none : (m : ℕ) → 1 ≤ m → m < n → condition t m ≡ false

-- each number is returned in its own condition and in no other
pub number-own : (t : List ℤ) (n : ℕ) → 1 ≤ n → Refused t n → load_refusal t ≡ n
unfolding load_refusal condition
number-own t n l r = first-own 1 (conditions t) (n - 1) (record { holds = r.own; none = before }) ∙ omega arith
  where
    before : (j : ℕ) → j < n - 1 → get_or (conditions t) j false ≡ false
    before j h = rw one_less at (r.none (suc j) (omega arith) (omega arith))

pub number-only : (t : List ℤ) (n : ℕ) → 1 ≤ n → load_refusal t ≡ n → Refused t n
unfolding load_refusal condition
number-only t n l e =
    let f = first-only 1 (conditions t) (n - 1) (omega arith) (omega arith) in
    record { own = f.holds; none = λ m a b. f.none (m - 1) (omega arith) }

-- and a table loads exactly when it meets no condition
pub loads-only : (t : List ℤ) → load_refusal t ≡ 0 → (n : ℕ) → condition t n ≡ false
unfolding load_refusal condition
loads-only t e n = first-none 1 (conditions t) (omega arith) e (n - 1)

pub loads-own : (t : List ℤ) → ((n : ℕ) → 1 ≤ n → condition t n ≡ false) → load_refusal t ≡ 0
unfolding load_refusal condition
loads-own t h = none_first 1 (conditions t) (λ j. rw one_less at (h (suc j) (omega arith)))

-- refusal 2 names the lowest slot out of range
pub record Named (t : List ℤ) (slot : ℕ) : Type 0 where
  pub out : in_range slot (word_at t slot) ≡ false
  pub lowest : (k : ℕ) → k < slot → in_range k (word_at t k) ≡ true

pub slot-named : (t : List ℤ) → load_refusal t ≡ 2 → Named t (load_slot t)
unfolding load_slot condition conditions words_missing slot_out
slot-named t e =
    let r = number-only t 2 (omega arith) e in
    let long : length t ≡ 104 = eqb-true (length t) 104 (not-false (eqb (length t) 104) (r.none 1 (omega arith) (omega arith))) in
    let low : lowest_out t < 104 = ltb-true (lowest_out t) 104 r.own in
    rw e (record { out = at-lowest t (omega arith); lowest = λ k h. below-lowest t k h (omega arith) })

-- the number is at most 9
first_most : (n : ℕ) (bs : List Bool) → 1 ≤ n → first_of n bs < n + length bs
unfolding first_of
first_most n [] l = omega arith
first_most n (true ∷ bs) l = omega arith
first_most n (false ∷ bs) l = omega (arith, first_most (suc n) bs (omega arith))

number_most : (t : List ℤ) → load_refusal t ≤ 9
unfolding load_refusal conditions conflicts
number_most t = omega (arith, first_most 1 (conditions t) (omega arith))

-- the refusal of a number has that number, and names its slot where it is 2
number-by : (n slot : ℕ) → n ≤ 9 → number_told (refusal_by n slot) ≡ n
number-by zero slot h = refl
number-by (suc zero) slot h = refl
number-by (suc (suc zero)) slot h = refl
number-by (suc (suc (suc zero))) slot h = refl
number-by (suc (suc (suc (suc zero)))) slot h = refl
number-by (suc (suc (suc (suc (suc zero))))) slot h = refl
number-by (suc (suc (suc (suc (suc (suc zero)))))) slot h = refl
number-by (suc (suc (suc (suc (suc (suc (suc zero))))))) slot h = refl
number-by (suc (suc (suc (suc (suc (suc (suc (suc zero)))))))) slot h = refl
number-by (suc (suc (suc (suc (suc (suc (suc (suc (suc zero))))))))) slot h = refl
number-by (suc (suc (suc (suc (suc (suc (suc (suc (suc (suc n)))))))))) slot h = absurd (omega arith)

slot-by : (n slot : ℕ) → n ≤ 9 → slot_told (refusal_by n slot) ≡ cond (eqb n 2) slot 0
slot-by zero slot h = refl
slot-by (suc zero) slot h = refl
slot-by (suc (suc zero)) slot h = refl
slot-by (suc (suc (suc zero))) slot h = refl
slot-by (suc (suc (suc (suc zero)))) slot h = refl
slot-by (suc (suc (suc (suc (suc zero))))) slot h = refl
slot-by (suc (suc (suc (suc (suc (suc zero)))))) slot h = refl
slot-by (suc (suc (suc (suc (suc (suc (suc zero))))))) slot h = refl
slot-by (suc (suc (suc (suc (suc (suc (suc (suc zero)))))))) slot h = refl
slot-by (suc (suc (suc (suc (suc (suc (suc (suc (suc zero))))))))) slot h = refl
slot-by (suc (suc (suc (suc (suc (suc (suc (suc (suc (suc n)))))))))) slot h = absurd (omega arith)

-- a conflict has a number, and no conflict has none
conflict_most : (t : List ℤ) → first_of 3 (conflicts t) ≤ 9
unfolding conflicts
conflict_most t = omega (arith, first_most 3 (conflicts t) (omega arith))

pub some-conflict : (t : List ℤ) (r : Refusal) → refusal_by (first_of 3 (conflicts t)) 0 ≡ Some r → first_of 3 (conflicts t) ≡ 0 → ⊥
some-conflict t r is none = none-some r (rw none at is)

pub no-conflict : (t : List ℤ) → refusal_by (first_of 3 (conflicts t)) 0 ≡ None → first_of 3 (conflicts t) ≡ 0
no-conflict t is = sym (number-by (first_of 3 (conflicts t)) 0 (conflict_most t)) ∙ ap number_told is

-- the answer has this number and this slot, and the table where it loads
pub answer-number : (t : List ℤ) → number_told (load_of t).refusal ≡ load_refusal t
unfolding load_of
answer-number t = go (eqb (load_refusal t) 0) refl
  where
    go : (b : Bool) → eqb (load_refusal t) 0 ≡ b → number_told (cond b (record { refusal = None; table = t }) (refused_with (load_refusal t) (load_slot t))).refusal ≡ load_refusal t
    go true e = sym (eqb-true (load_refusal t) 0 e)
    go false e = number-by (load_refusal t) (load_slot t) (number_most t)

pub answer-slot : (t : List ℤ) → slot_told (load_of t).refusal ≡ load_slot t
unfolding load_of load_slot
answer-slot t = go (eqb (load_refusal t) 0) refl
  where
    by : (b : Bool) → cond b (cond b (lowest_out t) 0) 0 ≡ cond b (lowest_out t) 0
    by true = refl
    by false = refl

    go : (b : Bool) → eqb (load_refusal t) 0 ≡ b → slot_told (cond b (record { refusal = None; table = t }) (refused_with (load_refusal t) (cond (eqb (load_refusal t) 2) (lowest_out t) 0))).refusal ≡ cond (eqb (load_refusal t) 2) (lowest_out t) 0
    go true e = rw (eqb-true (load_refusal t) 0 e)
    go false e = slot-by (load_refusal t) _ (number_most t) ∙ by (eqb (load_refusal t) 2)

-- a test for a value, as it is said of an option
pub none-of : {A : Type 0} (o : Option A) → is_some o ≡ false → o ≡ None
none-of None e = refl
none-of (Some a) e = let z : ◌≡◌ {A = ℕ} 0 1 = cc in absurd (omega arith)

pub not-none : {A : Type 0} (o : Option A) → is_some o ≡ true → o ≡ None → ⊥
not-none None e n = let z : ◌≡◌ {A = ℕ} 0 1 = cc in omega arith
not-none (Some a) e n = none-some a (sym n)

-- it has no refusal exactly where the table loads
pub answer-none : (t : List ℤ) → load_refusal t ≡ 0 → (load_of t).refusal ≡ None
unfolding load_of
answer-none t e = rw e

pub none-answered : (t : List ℤ) → (load_of t).refusal ≡ None → load_refusal t ≡ 0
none-answered t e = sym (answer-number t) ∙ ap number_told e

pub answer-table : (t : List ℤ) → load_refusal t ≡ 0 → (load_of t).table ≡ t
unfolding load_of
answer-table t e = rw e

-- the slot that a refused load names is one of the table's
named_small : (t : List ℤ) → load_refusal t ≡ 2 → lowest_out t < 104
unfolding condition conditions slot_out
named_small t e = ltb-true (lowest_out t) 104 (number-only t 2 (omega arith) e).own

pub slot_small : (t : List ℤ) → slot_told (load_of t).refusal ≤ 104
unfolding load_slot
slot_small t = rw (answer-slot t) (by (eqb (load_refusal t) 2) refl)
  where
    by : (b : Bool) → eqb (load_refusal t) 2 ≡ b → cond b (lowest_out t) 0 ≤ 104
    by true e = omega (arith, named_small t (eqb-true (load_refusal t) 2 e))
    by false e = omega arith

-- the defaults load
pub defaults-load : load_refusal default_table ≡ 0
unfolding load_refusal conditions conflicts first_of some words_missing slot_out field_wrong error_bit_wrong span_empty not_above points_not_rising origin_missing frozen_by_edge freeze_on_edge differ differs_from polarities_differ out_from in_range row_at row_of default_table defaults_from
defaults-load = refl
