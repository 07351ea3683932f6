-- What a choice by a test gives: the goal for each outcome, with what the outcome says. Assumes nothing.
use Rattle.std.specs.Prelude.{◌≡◌, refl, Bool, true, false, not, cond, T}
use Rattle.std.proofs.Common.{sym, subst}

-- a goal about the value chosen
pub by-test {ℓ} : {A : Type ℓ} (c : Bool) (x y : A) (Q : A → Type 0) → (T c → Q x) → (T (not c) → Q y) → Q (cond c x y)
by-test true x y Q f g = f tt
by-test false x y Q f g = g tt

-- a goal about two values chosen by one test
pub both : {A B : Type 0} (c : Bool) (x y : A) (u v : B) (Q : A → B → Type 0) → (T c → Q x u) → (T (not c) → Q y v) → Q (cond c x y) (cond c u v)
both true x y u v Q f g = f tt
both false x y u v Q f g = g tt

-- a goal that does not name the value
pub either : {X : Type 0} (c : Bool) → (T c → X) → (T (not c) → X) → X
either true f g = f tt
either false f g = g tt

-- a function of a choice is the choice of its values
pub map-cond : {A B : Type 0} (f : A → B) (c : Bool) (x y : A) → f (cond c x y) ≡ cond c (f x) (f y)
map-cond f true x y = refl
map-cond f false x y = refl

pub cond_same : {A : Type 0} (c : Bool) (x : A) → cond c x x ≡ x
cond_same true x = refl
cond_same false x = refl

-- a test as an equation, and back
pub is_true : (c : Bool) → T c → c ≡ true
is_true true t = refl
is_true false t = absurd t

pub is_false : (c : Bool) → T (not c) → c ≡ false
is_false true t = absurd t
is_false false t = refl

pub true-is : (c : Bool) → c ≡ true → T c
true-is c e = subst T (sym e) tt

pub false-is : (c : Bool) → c ≡ false → T (not c)
false-is c e = subst (λ (b : Bool). T (not b)) (sym e) tt
