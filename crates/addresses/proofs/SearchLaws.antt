-- The laws of the search and the count: what the lowest is, where it is found, that fewer pass a narrower test, and a loop's next turn. Assumes nothing.
use Rattle.std.specs.Prelude.{◌≡◌, Bool, true, false, cond, eqb, Option, None, Some}
use Rattle.std.proofs.Math.Path.{refl, sym, ap}
use Rattle.std.proofs.Common.{◌∙◌, zero-add, add-zero, suc-add, add-suc, add-one}
use Prim.Native.Nat.{ℕ, zero, suc, ◌+◌, ◌-◌, ◌≤◌, ◌<◌}
use native.Mathlib.Omega.{arith}
use Rattle.std.proofs.Math.Dec.{eqb→eq}
use Rattle.std.proofs.lemmas.Option.{none-some, same_Some}
use borrow.Author.Tests.{eqb-false}
use Rattle.integers.specs.ChoiceLaws.{by-test, either, is_true, is_false}
use Rattle.addresses.specs.Search.{lowest_from, count_from}

-- ---- what the lowest is

-- none is found, or one is
pub by_found : {X : Type 0} (o : Option ℕ) → (o ≡ None → X) → ((b : ℕ) → o ≡ Some b → X) → X
by_found None f g = f refl
by_found (Some b) f g = g b refl

-- none: none of them passes
pub lowest-none : (p : ℕ → Bool) (a n : ℕ) → lowest_from p a n ≡ None → (x : ℕ) → a ≤ x → x < a + n → p x ≡ false
unfolding lowest_from
lowest-none p a zero e x low high = absurd (omega arith)
lowest-none p a (suc n) e x low high =
    either (p a)
    (λ t. absurd (none-some a (sym (rw (is_true (p a) t) at e))))
    (λ f. either (eqb x a)
    (λ same. ap p (eqb→eq x a same) ∙ is_false (p a) f)
    (λ other. lowest-none p (suc a) n (rw (is_false (p a) f) at e) x (omega (arith, eqb-false x a (is_false (eqb x a) other))) (omega arith)))

-- else it passes, and none below it does
pub record Lowest (p : ℕ → Bool) (a n b : ℕ) : Type 0 where
  pub low : a ≤ b
  pub high : b < a + n
  pub passes : p b ≡ true
  pub least : (x : ℕ) → a ≤ x → x < b → p x ≡ false

pub lowest-is : (p : ℕ → Bool) (a n b : ℕ) → lowest_from p a n ≡ Some b → Lowest p a n b
unfolding lowest_from
lowest-is p a zero b e = absurd (none-some b e)
lowest-is p a (suc n) b e =
    either (p a)
    (λ t. let same : a ≡ b = same_Some a b (rw (is_true (p a) t) at e) in
    record { low = omega arith; high = omega arith; passes = ap p (sym same) ∙ is_true (p a) t; least = λ x low high. absurd (omega arith) })
    (λ f. let r = lowest-is p (suc a) n b (rw (is_false (p a) f) at e) in
    record {
      low = omega arith;
      high = omega arith;
      passes = r.passes;
      least = λ x low high. either (eqb x a) (λ same. ap p (eqb→eq x a same) ∙ is_false (p a) f)
          (λ other. r.least x (omega (arith, eqb-false x a (is_false (eqb x a) other))) high);
    })

-- ---- where it is found

-- the first that passes
pub lowest-found : (p : ℕ → Bool) (a n b : ℕ) → Lowest p a n b → lowest_from p a n ≡ Some b
unfolding lowest_from
lowest-found p a zero b r = absurd (omega arith)
lowest-found p a (suc n) b r =
    either (eqb a b)
    (λ same. let e = eqb→eq a b same in rw (ap p e ∙ r.passes) (ap Some e))
    (λ other. let m : a < b = omega (arith, eqb-false a b (is_false (eqb a b) other)) in
    rw (r.least a (omega arith) m)
    (lowest-found p (suc a) n b (record { low = m; high = omega arith; passes = r.passes; least = λ x low high. r.least x (omega arith) high })))

-- behind m that do not
pub lowest-past : (p : ℕ → Bool) (a m n : ℕ) → ((x : ℕ) → a ≤ x → x < a + m → p x ≡ false) → lowest_from p a (m + n) ≡ lowest_from p (a + m) n
unfolding lowest_from
lowest-past p a zero n none = rw (zero-add n, add-zero a)
lowest-past p a (suc m) n none =
    rw (suc-add m n, none a (omega arith) (omega arith), add-suc a m, ← suc-add a m) (lowest-past p (suc a) m n (λ x low high. none x (omega arith) (omega arith)))

-- ---- the count in a loop that goes up from a

module _ (p : ℕ → Bool) (a : ℕ) where
  -- of the addresses above a
  abbrev pub count_above : ℕ
  count_above = count_from p (suc a) (255 - a)

pub count-step : (p : ℕ → Bool) (a : ℕ) → a < 256 → (b : Bool) → p a ≡ b → count_from p a (256 - a) ≡ cond b 1 0 + count_from p (a + 1) (256 - (a + 1))
unfolding count_from
count-step p a h b e =
    let n : 256 - a ≡ suc (256 - (a + 1)) = omega arith in
    rw (n, ← add-one a, e)

pub count-end : (p : ℕ → Bool) (a : ℕ) → 255 ≤ a → count_above p a ≡ 0
unfolding count_from
count-end p a h = let n : 255 - a ≡ 0 = omega arith in rw n

-- ---- fewer pass a narrower test

one-at_most : (q p : Bool) → (q ≡ true → p ≡ true) → cond q 1 0 ≤ cond p 1 0
one-at_most true true h = omega arith
one-at_most true false h = let z : ◌≡◌ {A = ℕ} 0 1 = cc (h refl) in absurd (omega arith)
one-at_most false true h = omega arith
one-at_most false false h = omega arith

module _ (p q : ℕ → Bool) where
  pub count-at_most : (a n : ℕ) → ((x : ℕ) → a ≤ x → x < a + n → q x ≡ true → p x ≡ true) → count_from q a n ≤ count_from p a n
  unfolding count_from
  count-at_most a zero narrow = omega arith
  count-at_most a (suc n) narrow =
      omega (arith, one-at_most (q a) (p a) (narrow a (omega arith) (omega arith)), count-at_most (suc a) n (λ x g h. narrow x (omega arith) (omega arith)))

  -- one that p alone passes is missing
  pub count_less : (a n : ℕ) → ((x : ℕ) → a ≤ x → x < a + n → q x ≡ true → p x ≡ true) →
      (b : ℕ) → a ≤ b → b < a + n → p b ≡ true → q b ≡ false → count_from q a n < count_from p a n
  unfolding count_from
  count_less a zero narrow b low high is fails = absurd (omega arith)
  count_less a (suc n) narrow b low high is fails =
      either (eqb b a)
      (λ same. let e = eqb→eq b a same in
      rw (ap q (sym e) ∙ fails, ap p (sym e) ∙ is) (omega (arith, count-at_most (suc a) n (λ x g h. narrow x (omega arith) (omega arith)))))
      (λ other. omega (
        arith,
        one-at_most (q a) (p a) (narrow a (omega arith) (omega arith)),
        count_less (suc a) n (λ x g h. narrow x (omega arith) (omega arith)) b (omega (arith, eqb-false b a (is_false (eqb b a) other))) (omega arith) is fails,
      ))

  -- one that q alone passes is one more at most
  pub count-more : (b : ℕ) → ((x : ℕ) → (x ≡ b → ⊥) → q x ≡ p x) → (a n : ℕ) → count_from q a n ≤ suc (count_from p a n)
  unfolding count_from
  count-more b same a zero = omega arith
  count-more b same a (suc n) =
      either (eqb a b)
      (λ t. let e = eqb→eq a b t in
      let h = count-at_most (suc a) n (λ x g h is. sym (same x (omega arith)) ∙ is) in
      omega (arith, by-test (q a) 1 0 (λ (i : ℕ). i ≤ 1) (λ _. omega arith) (λ _. omega arith)))
      (λ f. rw (same a (eqb-false a b (is_false (eqb a b) f))) (omega (arith, count-more b same (suc a) n)))

  -- as many, where the same ones pass
  pub count_same : (a n : ℕ) → ((x : ℕ) → q x ≡ p x) → count_from q a n ≡ count_from p a n
  unfolding count_from
  count_same a zero same = refl
  count_same a (suc n) same = rw (same a, count_same (suc a) n same)

pub count_most : (p : ℕ → Bool) (a n : ℕ) → count_from p a n ≤ n
unfolding count_from
count_most p a zero = omega arith
count_most p a (suc n) = by-test (p a) 1 0 (λ x. x + count_from p (suc a) n ≤ suc n) (λ _. omega (arith, count_most p (suc a) n)) (λ _. omega (arith, count_most p (suc a) n))

-- where none is counted, none passes
pub count_none : (p : ℕ → Bool) (a n : ℕ) → count_from p a n ≡ 0 → (x : ℕ) → a ≤ x → x < a + n → p x ≡ false
unfolding count_from
count_none p a zero e x low high = absurd (omega arith)
count_none p a (suc n) e x low high =
    either (p a)
    (λ t. let z : 1 + count_from p (suc a) n ≡ 0 = rw (is_true (p a) t) at e in absurd (omega arith))
    (λ f. either (eqb x a)
    (λ same. ap p (eqb→eq x a same) ∙ is_false (p a) f)
    (λ other. count_none p (suc a) n (omega (arith, rw (is_false (p a) f) at e)) x (omega (arith, eqb-false x a (is_false (eqb x a) other))) (omega arith)))

-- and where none passes, none is counted
pub count-zero : (p : ℕ → Bool) (a n : ℕ) → ((x : ℕ) → a ≤ x → x < a + n → p x ≡ false) → count_from p a n ≡ 0
unfolding count_from
count-zero p a zero none = refl
count-zero p a (suc n) none = rw (none a (omega arith) (omega arith)) (omega (arith, count-zero p (suc a) n (λ x g h. none x (omega arith) (omega arith))))
