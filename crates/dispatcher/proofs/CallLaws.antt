-- The ways through a registration and a report, each by what its tests say.
use Rattle.std.specs.Prelude.{◌≡◌, refl, Bool, true, false, cond, ℕ, ◌≤◌, ◌<◌, ltb, Result, Ok, Err}
use Rattle.std.proofs.Common.{arith}
use borrow.Author.Tests.{ltb-false, le-ltb, le-leb, lt-leb}
use Rattle.integers.specs.TestLaws.{or-both}
use Rattle.dispatcher.specs.declared.Dispatcher.{Dispatcher}
use Rattle.dispatcher.specs.declared.Refusal.{Refusal}
use Rattle.dispatcher.specs.declared.Refusal.TheVariants.{TooMany, Present, NoPanel}
use Rattle.dispatcher.specs.Dispatch.{outside, address_of, present, panels, with_panel, with_report, refused, taken, register_of, report_of}

-- ---- 1 to 247

module _ (a : ℕ) where
  pub inside : 1 ≤ a → a ≤ 247 → outside a ≡ false
  inside h k = rw (le-ltb a 1 h, le-ltb 247 a k)

  pub in-range : outside a ≡ false → (1 ≤ a) × (a ≤ 247)
  in-range e = let n = or-both (ltb a 1) (ltb 247 a) e in (ltb-false a 1 n.0, ltb-false 247 a n.1)

  -- the address of a panel, or none
  pub address-err : (e : Refusal) → address_of a ≡ Err e → (outside a ≡ true) × (e ≡ NoPanel)
  address-err e h = by_test (outside a) refl h
    where
      by_test : (o : Bool) → outside a ≡ o → cond {A = Result ℕ Refusal} o (Err NoPanel) (Ok a) ≡ Err e → (outside a ≡ true) × (e ≡ NoPanel)
      by_test true t h = (t, cc)
      by_test false t h = absurd (let z : ◌≡◌ {A = ℕ} 0 1 = cc in omega arith)

  pub address-ok : (b : ℕ) → address_of a ≡ Ok b → (outside a ≡ false) × (b ≡ a)
  address-ok b h = by_test (outside a) refl h
    where
      by_test : (o : Bool) → outside a ≡ o → cond {A = Result ℕ Refusal} o (Err NoPanel) (Ok a) ≡ Ok b → (outside a ≡ false) × (b ≡ a)
      by_test true t h = absurd (let z : ◌≡◌ {A = ℕ} 0 1 = cc in omega arith)
      by_test false t h = (t, cc)

module _ (d : Dispatcher) (a : ℕ) where
  -- ---- a registration

  pub register-outside : outside a ≡ true → register_of d a ≡ refused d NoPanel
  unfolding register_of
  register-outside o = rw o

  pub register-present : outside a ≡ false → present d a ≡ true → register_of d a ≡ refused d Present
  unfolding register_of
  register-present o p = rw (o, p)

  pub register-full : outside a ≡ false → present d a ≡ false → 32 ≤ panels d → register_of d a ≡ refused d TooMany
  unfolding register_of
  register-full o p m = rw (o, p, le-leb 32 (panels d) m)

  pub register-joined : outside a ≡ false → present d a ≡ false → panels d < 32 → register_of d a ≡ taken (with_panel d a)
  unfolding register_of
  register-joined o p m = rw (o, p, lt-leb 32 (panels d) m)

  -- ---- a report

  module _ (e : Bool) where
    pub report-outside : outside a ≡ true → report_of d a e ≡ refused d NoPanel
    unfolding report_of
    report-outside o = rw o

    pub report-unknown : outside a ≡ false → present d a ≡ false → report_of d a e ≡ refused d NoPanel
    unfolding report_of
    report-unknown o p = rw (o, p)

    pub report-taken : outside a ≡ false → present d a ≡ true → report_of d a e ≡ taken (with_report d a e)
    unfolding report_of
    report-taken o p = rw (o, p)
