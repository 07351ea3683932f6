-- The upper half that waits, by `half_waiting`: what is pending is that half, or none; and where none waits, a word is taken whatever `upper` is.
use Rattle.std.specs.Prelude.{◌≡◌, refl, Bool, true, false, cond, ℕ, eqb, Some, None}
use Rattle.std.proofs.Common.{arith}
use borrow.Author.Tests.{eq-eqb}
use Rattle.std.proofs.lemmas.Bool.{eqb-false}
use Rattle.events.specs.declared.Pending.{Pending}
use Rattle.events.specs.declared.AfterWord.{AfterWord}
use Rattle.events.specs.Words.{kind_of}
use Rattle.events.specs.Log.{fresh_pending, half_waiting, kept, accepted_of, ordered_of}

pub half-some : (p : Pending) (u : ℕ) → Some u ≡ half_waiting p → p ≡ (kept u).pending
half-some p u h = by p.waiting p.upper h
  where
    by : (b : Bool) (x : ℕ) → Some u ≡ cond b (Some x) None → ◌≡◌ {A = Pending} (record { waiting = b; upper = x }) (kept u).pending
    by true x e = cc
    by false x e = cc

pub half-none : (p : Pending) → None ≡ half_waiting p → p.waiting ≡ false
half-none p h = by p.waiting p.upper h
  where
    by : (b : Bool) (x : ℕ) → None ≡ cond b (Some x) None → b ≡ false
    by true x e = cc
    by false x e = refl

-- by kind, where kind 3 is refused
but-three : (k0 k1 k2 k3 : Bool) (a b c d e r : AfterWord) → (k0 ≡ false → k1 ≡ false → k2 ≡ false → k3 ≡ true)
    → cond k3 r (cond k0 a (cond k1 b (cond k2 c d))) ≡ cond k3 r (cond k0 a (cond k1 b (cond k2 c e)))
but-three k0 k1 k2 true a b c d e r h = refl
but-three true k1 k2 false a b c d e r h = refl
but-three false true k2 false a b c d e r h = refl
but-three false false true false a b c d e r h = refl
but-three false false false false a b c d e r h = let z : false ≡ true = h refl refl refl in cc

pub ordered-fresh : (p : Pending) (w : ℕ) → p.waiting ≡ false → ordered_of p w ≡ ordered_of fresh_pending w
unfolding accepted_of
ordered-fresh p w h =
    rw h
    (but-three (eqb (kind_of w) 0) (eqb (kind_of w) 1) (eqb (kind_of w) 2) (eqb (kind_of w) 3) _ _ _ _ _ _
    (λ a b c. eq-eqb (kind_of w) 3 (omega (arith, eqb-false (kind_of w) 0 a, eqb-false (kind_of w) 1 b, eqb-false (kind_of w) 2 c))))
