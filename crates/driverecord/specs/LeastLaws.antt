-- The least and the greatest of a list are two of it, and each of it lies between them. Assumes nothing.
use Rattle.std.specs.Prelude.{refl, List, [], ◌∷◌, ℤ, ◌≤ℤ◌}
use Rattle.std.proofs.Common.{inl, inr, arith}
use Rattle.std.specs.Int.Signed.{lt_z}
use Rattle.integers.specs.ChoiceLaws.{by-test}
use Rattle.integers.specs.IntLaws.{ints}
use Rattle.driverecord.specs.Least.{lesser, greater, least_of, greatest_of, Among, Between, Each}
use Rattle.integers.specs.RingLaws.{var, le, lt-ex, nlt-ex}

-- what holds of each holds of one of them
pub each-among : (Q : ℤ → Type 0) (xs : List ℤ) {a : ℤ} → Each Q xs → Among a xs → Q a
each-among Q [] h m = absurd m
each-among Q (b ∷ bs) {a} h (inl e) = rw e h.0
each-among Q (b ∷ bs) {a} h (inr m) = each-among Q bs h.1 m

-- ---- both are of the list

pub least-among : (a : ℤ) (xs : List ℤ) → Among (least_of a xs) (a ∷ xs)
unfolding least_of
least-among a [] = inl refl
least-among a (b ∷ bs) =
    by-test (lt_z a (least_of b bs)) a (least_of b bs) (λ (x : ℤ). Among x (a ∷ b ∷ bs)) (λ _. inl refl) (λ _. inr (least-among b bs))

pub greatest-among : (a : ℤ) (xs : List ℤ) → Among (greatest_of a xs) (a ∷ xs)
unfolding greatest_of
greatest-among a [] = inl refl
greatest-among a (b ∷ bs) =
    by-test (lt_z (greatest_of b bs) a) a (greatest_of b bs) (λ (x : ℤ). Among x (a ∷ b ∷ bs)) (λ _. inl refl) (λ _. inr (greatest-among b bs))

-- ---- and bound it

lesser-left : (a b : ℤ) → lesser a b ≤ℤ a
lesser-left a b = by-test (lt_z a b) a b (λ (x : ℤ). x ≤ℤ a) (λ _. le (var a) (var a) (omega arith)) (λ n. le (var b) (var a) (nlt-ex (var a) (var b) n))

lesser-right : (a b : ℤ) → lesser a b ≤ℤ b
lesser-right a b =
    by-test (lt_z a b) a b (λ (x : ℤ). x ≤ℤ b) (λ t. let h = lt-ex (var a) (var b) t in le (var a) (var b) (omega arith)) (λ _. le (var b) (var b) (omega arith))

greater-left : (a b : ℤ) → a ≤ℤ greater a b
greater-left a b = by-test (lt_z b a) a b (λ (x : ℤ). a ≤ℤ x) (λ _. le (var a) (var a) (omega arith)) (λ n. le (var a) (var b) (nlt-ex (var b) (var a) n))

greater-right : (a b : ℤ) → b ≤ℤ greater a b
greater-right a b =
    by-test (lt_z b a) a b (λ (x : ℤ). b ≤ℤ x) (λ t. let h = lt-ex (var b) (var a) t in le (var b) (var a) (omega arith)) (λ _. le (var b) (var b) (omega arith))

trans : {a b c : ℤ} → a ≤ℤ b → b ≤ℤ c → a ≤ℤ c
trans h k = omega (arith, ints)

pub least-below : (a : ℤ) (xs : List ℤ) {x : ℤ} → Among x (a ∷ xs) → least_of a xs ≤ℤ x
unfolding least_of
least-below a [] {x} (inl e) = rw e (le (var a) (var a) (omega arith))
least-below a [] {x} (inr m) = absurd m
least-below a (b ∷ bs) {x} (inl e) = rw e (lesser-left a (least_of b bs))
least-below a (b ∷ bs) {x} (inr m) = trans (lesser-right a (least_of b bs)) (least-below b bs m)

pub greatest-above : (a : ℤ) (xs : List ℤ) {x : ℤ} → Among x (a ∷ xs) → x ≤ℤ greatest_of a xs
unfolding greatest_of
greatest-above a [] {x} (inl e) = rw e (le (var a) (var a) (omega arith))
greatest-above a [] {x} (inr m) = absurd m
greatest-above a (b ∷ bs) {x} (inl e) = rw e (greater-left a (greatest_of b bs))
greatest-above a (b ∷ bs) {x} (inr m) = trans (greatest-above b bs m) (greater-right a (greatest_of b bs))

pub among-between : (x : ℤ) (xs : List ℤ) → Among x xs → Between x xs
among-between x [] m = absurd m
among-between x (a ∷ xs) m = (least-below a xs m, greatest-above a xs m)
