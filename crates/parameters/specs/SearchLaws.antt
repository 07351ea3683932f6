-- Laws of the two searches: some number that passes a test, and the first condition that holds.
use Rattle.std.specs.Prelude.{◌≡◌, refl, Bool, ◌||◌, List, [], ◌∷◌, get_or}
use Rattle.std.proofs.Math.Bool.{true, false, or-true}
use Prim.Native.Nat.{ℕ, zero, suc, ◌+◌, ◌<◌, ◌≤◌}
use Rattle.std.proofs.Math.Decide.{ℕ_discrete}
use Rattle.std.proofs.Common.{add-one, arith}
use Rattle.integers.specs.Choice.{some}
use Rattle.parameters.specs.Search.{first_of}
use Rattle.integers.specs.TestLaws.{or-both}

module _ (f : ℕ → Bool) where
  -- none so far, and not the next one
  pub some_more : (i : ℕ) → some i f ≡ false → f i ≡ false → some (i + 1) f ≡ false
  unfolding some
  some_more i e d = rw (add-one, e) d

  -- one is found
  pub some_at : (n i : ℕ) → i < n → f i ≡ true → some n f ≡ true
  unfolding some
  some_at zero i h e = absurd (omega arith)
  some_at (suc n) i h e = at (ℕ_discrete i n) (λ l. some_at n i l e)
    where
      at : Dec (i ≡ n) → (i < n → some n f ≡ true) → (some n f || f n) ≡ true
      at (yes p) r = rw (← p, e) (or-true (some i f))
      at (no q) r = rw (r (omega arith))

  -- the loop is through
  pub some_end : (n i : ℕ) → i ≡ n → some i f ≡ false → some n f ≡ false
  some_end n i p e = rw p at e

  -- none is there
  pub some-none : (n i : ℕ) → some n f ≡ false → i < n → f i ≡ false
  unfolding some
  some-none zero i e h = absurd (omega arith)
  some-none (suc n) i e h =
      let b = or-both (some n f) (f n) e in
      at (ℕ_discrete i n) b.1 (some-none n i b.0)
    where
      at : Dec (i ≡ n) → f n ≡ false → (i < n → f i ≡ false) → f i ≡ false
      at (yes p) d r = rw p d
      at (no q) d r = r (omega arith)

-- the search goes by the tests' outcomes below n alone
pub some_same : (f g : ℕ → Bool) (n : ℕ) → ((i : ℕ) → i < n → f i ≡ g i) → some n f ≡ some n g
unfolding some
some_same f g zero h = refl
some_same f g (suc n) h = rw (some_same f g n (λ i l. h i (omega arith)), h n (omega arith))

-- the first condition's number is not below that of the list's first
pub first-least : (n : ℕ) (bs : List Bool) → (first_of n bs ≡ 0 → ⊥) → n ≤ first_of n bs
unfolding first_of
first-least n [] h = absurd (h refl)
first-least n (true ∷ bs) h = omega arith
first-least n (false ∷ bs) h = omega (arith, first-least (suc n) bs h)

-- a place of the list where a condition holds and none before it does
pub record First (bs : List Bool) (k : ℕ) : Type 0 where
  pub holds : get_or bs k false ≡ true
  pub none : (j : ℕ) → j < k → get_or bs j false ≡ false

-- the number is that of the first condition that holds
pub first-own : (n : ℕ) (bs : List Bool) (k : ℕ) → First bs k → first_of n bs ≡ n + k
unfolding first_of
first-own n [] k f = let z : ◌≡◌ {A = ℕ} 0 1 = cc in absurd (omega arith)
first-own n (true ∷ bs) zero f = omega arith
first-own n (true ∷ bs) (suc k) f = let e = f.none 0 (omega arith) in let z : ◌≡◌ {A = ℕ} 0 1 = cc in absurd (omega arith)
first-own n (false ∷ bs) zero f = let e = f.holds in let z : ◌≡◌ {A = ℕ} 0 1 = cc in absurd (omega arith)
first-own n (false ∷ bs) (suc k) f =
    omega (arith, first-own (suc n) bs k (record { holds = f.holds; none = λ j l. f.none (suc j) (omega arith) }))

-- and only that one's
pub first-only : (n : ℕ) (bs : List Bool) (k : ℕ) → 1 ≤ n → first_of n bs ≡ n + k → First bs k
unfolding first_of
first-only n [] k l e = absurd (omega arith)
first-only n (true ∷ bs) zero l e = record { holds = refl; none = λ j h. absurd (omega arith) }
first-only n (true ∷ bs) (suc k) l e = absurd (omega arith)
first-only n (false ∷ bs) zero l e = absurd (omega (arith, first-least (suc n) bs (λ z. omega arith)))
first-only n (false ∷ bs) (suc k) l e =
    let f = first-only (suc n) bs k (omega arith) (omega arith) in
    record { holds = f.holds; none = before f }
  where
    before : First bs k → (j : ℕ) → j < suc k → get_or (false ∷ bs) j false ≡ false
    before f zero h = refl
    before f (suc j) h = f.none j (omega arith)

-- no number: no condition holds
pub first-none : (n : ℕ) (bs : List Bool) → 1 ≤ n → first_of n bs ≡ 0 → (j : ℕ) → get_or bs j false ≡ false
unfolding first_of
first-none n [] l e j = refl
first-none n (true ∷ bs) l e j = absurd (omega arith)
first-none n (false ∷ bs) l e zero = refl
first-none n (false ∷ bs) l e (suc j) = first-none (suc n) bs (omega arith) e j

pub none_first : (n : ℕ) (bs : List Bool) → ((j : ℕ) → get_or bs j false ≡ false) → first_of n bs ≡ 0
unfolding first_of
none_first n [] h = refl
none_first n (true ∷ bs) h = let e = h 0 in let z : ◌≡◌ {A = ℕ} 0 1 = cc in absurd (omega arith)
none_first n (false ∷ bs) h = none_first (suc n) bs (λ j. h (suc j))
