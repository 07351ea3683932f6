-- Each number of the log in its own condition and in no other: 14, 15 and 16; and what a word of each kind gives.
use Rattle.std.specs.Prelude.{◌≡◌, refl, Bool, true, false, cond, ◌⊎◌, ℕ, eqb, Ok, Err}
use Rattle.std.proofs.Common.{inl, inr, arith}
use Rattle.events.specs.declared.Event.{Event}
use Rattle.events.specs.declared.Event.TheVariants.{Telegram, Levels, Tick}
use Rattle.events.specs.declared.Pending.{Pending}
use Rattle.events.specs.declared.Refusal.{Refusal}
use Rattle.events.specs.declared.Refusal.TheVariants.{Reserved, OutOfOrder, LeftOver}
use Rattle.events.specs.declared.AfterWord.{AfterWord}
use Rattle.events.specs.Words.{bits_of, kind_of, ms_of, levels_of, half_of, joined, reserved_set}
use Rattle.events.specs.Log.{happened, kept, refused, out_of_order, accepted_of, taken_of, end_of}

-- ---- each condition gives its number
module _ (p : Pending) (w : ℕ) where
  pub reserved-14 : reserved_set w ≡ true → taken_of p w ≡ refused Reserved
  unfolding taken_of
  reserved-14 r = rw r

  pub order-15 : reserved_set w ≡ false → out_of_order p.waiting w ≡ true → taken_of p w ≡ refused OutOfOrder
  unfolding taken_of
  order-15 r o = rw (r, o)

  pub in_order : reserved_set w ≡ false → out_of_order p.waiting w ≡ false → taken_of p w ≡ accepted_of p.upper w
  unfolding taken_of
  in_order r o = rw (r, o)

-- ---- each number has its condition
-- a word in order is not refused
given-not : (a b c : Bool) (e f g : Event) (u : ℕ) (n : Refusal) → (cond a (happened e) (cond b (happened f) (cond c (kept u) (happened g)))).taken ≡ Err n → ⊥
given-not true b c e f g u n h = let z : ◌≡◌ {A = ℕ} 0 1 = cc in omega arith
given-not false true c e f g u n h = let z : ◌≡◌ {A = ℕ} 0 1 = cc in omega arith
given-not false false true e f g u n h = let z : ◌≡◌ {A = ℕ} 0 1 = cc in omega arith
given-not false false false e f g u n h = let z : ◌≡◌ {A = ℕ} 0 1 = cc in omega arith

pub accepted-not-refused : (upper w : ℕ) (n : Refusal) → (accepted_of upper w).taken ≡ Err n → ⊥
unfolding accepted_of
accepted-not-refused upper w n h = given-not (eqb (kind_of w) 0) (eqb (kind_of w) 1) (eqb (kind_of w) 2) _ _ _ _ n h

-- why a word is refused with n: 14 with a reserved bit set; 15 with none set, and out of order
abbrev pub Reason : Pending → ℕ → Refusal → Type 0
Reason p w n = ((n ≡ Reserved) × (reserved_set w ≡ true)) ⊎ ((n ≡ OutOfOrder) × (reserved_set w ≡ false) × (out_of_order p.waiting w ≡ true))

which : (r o : Bool) (s : AfterWord) (n : Refusal) → (s.taken ≡ Err n → ⊥) → (cond r (refused Reserved) (cond o (refused OutOfOrder) s)).taken ≡ Err n
    → ((n ≡ Reserved) × (r ≡ true)) ⊎ ((n ≡ OutOfOrder) × (r ≡ false) × (o ≡ true))
which true o s n sure h = inl ((cc), refl)
which false true s n sure h = inr ((cc), refl, refl)
which false false s n sure h = absurd (sure h)

pub word-reason : (p : Pending) (w : ℕ) (n : Refusal) → (taken_of p w).taken ≡ Err n → Reason p w n
unfolding taken_of
word-reason p w n h = which (reserved_set w) (out_of_order p.waiting w) (accepted_of p.upper w) n (accepted-not-refused p.upper w n) h

-- ---- the end
pub end-16 : (p : Pending) (left : ℕ) → eqb left 0 ≡ false → end_of p left ≡ Err LeftOver
unfolding end_of
end-16 p left h = rw h

pub end-15 : (p : Pending) → p.waiting ≡ true → end_of p 0 ≡ Err OutOfOrder
unfolding end_of
end-15 p h = rw h

pub end-0 : (p : Pending) → p.waiting ≡ false → end_of p 0 ≡ Ok tt
unfolding end_of
end-0 p h = rw h

-- ---- what a word of each kind gives
module _ (p : Pending) (w : ℕ) where
  pub tick-word : p.waiting ≡ false → kind_of w ≡ 0 → bits_of 29 16 w ≡ 0 → taken_of p w ≡ happened (Tick (ms_of w))
  unfolding taken_of reserved_set accepted_of
  tick-word h k r = rw (k, r, h)

  pub levels-word : p.waiting ≡ false → kind_of w ≡ 1 → bits_of 29 3 w ≡ 0 → taken_of p w ≡ happened (Levels (levels_of w))
  unfolding taken_of reserved_set accepted_of
  levels-word h k r = rw (k, r, h)

  pub upper-word : p.waiting ≡ false → kind_of w ≡ 2 → bits_of 29 16 w ≡ 0 → taken_of p w ≡ kept (half_of w)
  unfolding taken_of reserved_set accepted_of
  upper-word h k r = rw (k, r, h)

  pub lower_word : p.waiting ≡ true → kind_of w ≡ 3 → bits_of 29 16 w ≡ 0 → taken_of p w ≡ happened (Telegram (joined p.upper (half_of w)))
  unfolding taken_of reserved_set accepted_of
  lower_word h k r = rw (k, r, h)
