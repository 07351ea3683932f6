-- The order in which a group meets the addresses: those above the one that it polled last, then from the lowest on. The group's next panel is its nearest
-- member in that order; and in the order behind a panel, all that was before another panel still is, but for the one that was polled.
use Rattle.std.specs.Prelude.{◌≡◌, Bool, true, cond, ℕ, Option, None, Some, suc, ◌+◌, ◌-◌, ◌≤◌, ◌<◌, ltb}
use Rattle.std.proofs.Common.{◌∙◌, arith, ltb-true, ltb-false}
use Rattle.integers.specs.ChoiceLaws.{either, is_true, is_false}
use Rattle.integers.specs.TestLaws.{clash}
use Rattle.addresses.specs.Search.{lowest_above}
use Rattle.addresses.proofs.SearchLaws.{by_found, lowest-none, Lowest, lowest-is}
use Rattle.dispatcher.specs.declared.Group.{Group}
use Rattle.dispatcher.specs.Dispatch.{member, next_of}
use Rattle.dispatcher.proofs.TurnLaws.{next-higher, next-lowest}

-- ---- the order, as a number: how far x is behind k

unfoldable pub way : ℕ → ℕ → ℕ
way k x = cond (ltb k x) (x - k) (256 + x)

pub by_way : {X : Type 0} (k x : ℕ) → (k < x → way k x ≡ x - k → X) → (x ≤ k → way k x ≡ 256 + x → X) → X
unfolding way
by_way k x f g =
    either (ltb k x)
    (λ t. let e = is_true (ltb k x) t in f (ltb-true k x e) (rw e))
    (λ t. let e = is_false (ltb k x) t in g (ltb-false k x e) (rw e))

pub way_same : (k a b : ℕ) → a < 256 → b < 256 → way k a ≡ way k b → a ≡ b
way_same k a b ha hb e =
    by_way k a
    (λ p q. by_way k b (λ r s. omega arith) (λ r s. omega arith))
    (λ p q. by_way k b (λ r s. omega arith) (λ r s. omega arith))

-- behind b, which is before a, whatever is before a was so already
pub way_on : (k a b x : ℕ) → a < 256 → b < 256 → x < 256 → way k b < way k a → way b x < way b a → way k x < way k a
way_on k a b x ha hb hx h i =
    by_way k a
    (λ p q. by_way k b
    (λ r s. by_way b a
    (λ t u. by_way b x
    (λ v w. by_way k x (λ y z. omega arith) (λ y z. omega arith))
    (λ v w. absurd (omega arith)))
    (λ t u. absurd (omega arith)))
    (λ r s. absurd (omega arith)))
    (λ p q. by_way k b
    (λ r s. by_way b a
    (λ t u. absurd (omega arith))
    (λ t u. by_way b x
    (λ v w. by_way k x (λ y z. omega arith) (λ y z. omega arith))
    (λ v w. by_way k x (λ y z. omega arith) (λ y z. omega arith))))
    (λ r s. by_way b a
    (λ t u. by_way b x
    (λ v w. by_way k x (λ y z. omega arith) (λ y z. omega arith))
    (λ v w. absurd (omega arith)))
    (λ t u. absurd (omega arith))))

-- b is the last of its own order
pub way-last : (a b : ℕ) → a < 256 → way b b < way b a → ⊥
way-last a b ha h = by_way b b (λ p q. omega arith) (λ p q. by_way b a (λ r s. omega arith) (λ r s. omega arith))

-- ---- the next of a group is its nearest member

pub lowest-at_most : {p : ℕ → Bool} {s n b : ℕ} → Lowest p s n b → (a : ℕ) → s ≤ a → p a ≡ true → b ≤ a
lowest-at_most {p} {s} {n} {b} r a low is = let h : a < b → ⊥ = λ h. clash (r.least a low h) is in omega arith

-- b is a member, and no farther than a
pub record Nearest (g : Group) (a b : ℕ) : Type 0 where
  pub address : 0 < b
  pub below : b < 256
  pub passes : member g b ≡ true
  pub nearest : way g.last b ≤ way g.last a

module _ (g : Group) (a : ℕ) (low : 0 < a) (high : a < 256) (is : member g a ≡ true) where
  abbrev k : ℕ
  k = g.last

  abbrev up : Option ℕ
  up = lowest_above (member g) k

  abbrev first : Option ℕ
  first = lowest_above (member g) 0

  -- some member is higher than the last
  up-nearest : (b : ℕ) → up ≡ Some b → Nearest g a b
  up-nearest b e =
      let r = lowest-is (member g) (suc k) (255 - k) b e in
      record {
        address = omega arith;
        below = omega arith;
        passes = r.passes;
        nearest =
            by_way k b
            (λ p q. by_way k a (λ t u. let h = lowest-at_most r a (omega arith) is in omega arith) (λ t u. omega arith))
            (λ p q. absurd (omega arith));
      }

  -- none is
  first-nearest : up ≡ None → (b : ℕ) → first ≡ Some b → Nearest g a b
  first-nearest e b f =
      let r = lowest-is (member g) 1 255 b f in
      let h = lowest-at_most r a (omega arith) is in
      let m : k < a → ⊥ = λ m. clash (lowest-none (member g) (suc k) (255 - k) e a (omega arith) (omega arith)) is in
      record {
        address = omega arith;
        below = omega arith;
        passes = r.passes;
        nearest = by_way k b (λ p q. absurd (omega arith)) (λ p q. by_way k a (λ t u. absurd (m t)) (λ t u. omega arith));
      }

  pub next-nearest : (b : ℕ) × (next_of g ≡ Some b) × Nearest g a b
  next-nearest =
      by_found up
      (λ e. by_found first
      (λ z. absurd (clash (lowest-none (member g) 1 255 z a (omega arith) (omega arith)) is))
      (λ b f. (b, next-lowest g e ∙ f, first-nearest e b f)))
      (λ b f. (b, next-higher g b f, up-nearest b f))
