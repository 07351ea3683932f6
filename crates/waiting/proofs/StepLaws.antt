-- What a step changes: of what the groups polled last, of their sets, and of who is registered and in error.
use Rattle.std.specs.Prelude.{◌≡◌, refl, Bool, true, false, not, cond, ◌||◌, List, [], ◌∷◌, ℕ, Option, None, Some, ◌≤◌, ◌<◌, T, leb, eqb, length}
use Rattle.std.proofs.Common.{sym, ◌∙◌, ap, arith, eqb→eq, length-set}
use Rattle.std.proofs.lemmas.Bool.{eqb-false, not-true}
use Rattle.integers.specs.ChoiceLaws.{by-test, either, is_true, is_false}
use Rattle.integers.specs.TestLaws.{and_both}
use Rattle.addresses.specs.declared.Addresses.{Addresses}
use Rattle.addresses.specs.Addresses.{holds, including, excluding}
use Rattle.addresses.proofs.AddressLaws.{including-same, including-other, excluding-same, excluding-other}
use Rattle.dispatcher.specs.declared.Group.{Group}
use Rattle.dispatcher.specs.declared.Dispatcher.{Dispatcher}
use Rattle.dispatcher.specs.declared.Refusal.TheVariants.{NoPanel}
use Rattle.dispatcher.specs.Dispatch.{outside, present, registered, in_error, member, some, panels, next_of, error_turn, entered, left, with_panel, with_report, fresh_of, Answer, Turn, refused, taken, polled_of, register_of, report_of, pick_of}
use Rattle.dispatcher.proofs.CallLaws.{in-range}
use Rattle.waiting.specs.Steps.{Step, picks, reports, registers, after, ran}

-- ---- an address that is registered

pub record Registered (d : Dispatcher) (a : ℕ) : Type 0 where
  pub low : 0 < a
  pub high : a ≤ 247
  pub is : present d a ≡ true

pub registered-is : (d : Dispatcher) (a : ℕ) → T (registered d a) → Registered d a
registered-is d a t =
    let w = and_both (not (outside a)) (present d a) (is_true (registered d a) t) in
    let r = in-range a (not-true (outside a) w.0) in
    record { low = r.0; high = r.1; is = w.1 }

-- ---- a report and a registration leave what was polled last

pub record Still (d c : Dispatcher) : Type 0 where
  pub in-error : c.error.last ≡ d.error.last
  pub ordinary : c.ordinary.last ≡ d.ordinary.last
  pub faulty : c.faulty ≡ d.faulty

still : (d : Dispatcher) → Still d d
still d = record { in-error = refl; ordinary = refl; faulty = refl }

still-with : (d : Dispatcher) (a : ℕ) (e : Bool) → Still d (with_report d a e)
still-with d a true = record { in-error = refl; ordinary = refl; faulty = refl }
still-with d a false = record { in-error = refl; ordinary = refl; faulty = refl }

pub report-still : (d : Dispatcher) (b : ℕ) (e : Bool) → Still d (after d (reports b e))
unfolding after report_of
report-still d b e = by-test (registered d b) _ _ (λ (r : Answer). Still d r.0) (λ _. still-with d b e) (λ _. still d)

-- a registration goes one of these ways: it changes nothing, or a panel that was not there enters
pub register-ways : (d : Dispatcher) (a : ℕ) (Q : Dispatcher → Type 0) → Q d →
    (outside a ≡ false → present d a ≡ false → leb 32 (panels d) ≡ false → Q (with_panel d a)) → Q (after d (registers a))
unfolding after register_of
register-ways d a Q same new =
    by-test (outside a) _ _ R (λ _. same)
    (λ i. by-test (present d a) _ _ R (λ _. same)
    (λ p. by-test (leb 32 (panels d)) _ _ R (λ _. same)
    (λ m. new (is_false (outside a) i) (is_false (present d a) p) (is_false (leb 32 (panels d)) m))))
  where
    R : Answer → Type 0
    R r = Q r.0

pub register-still : (d : Dispatcher) (b : ℕ) → Still d (after d (registers b))
register-still d b = register-ways d b (Still d) (still d) (λ _ _ _. record { in-error = refl; ordinary = refl; faulty = refl })

-- ---- a pick changes no set

pub record Same (d c : Dispatcher) : Type 0 where
  pub in-error : c.error.members ≡ d.error.members
  pub ordinary : c.ordinary.members ≡ d.ordinary.members

same : (d : Dispatcher) → Same d d
same d = record { in-error = refl; ordinary = refl }

polled_same : (d : Dispatcher) (g : Bool) (o : Option ℕ) → Same d (polled_of d g o).0
polled_same d g None = same d
polled_same d true (Some a) = record { in-error = refl; ordinary = refl }
polled_same d false (Some a) = record { in-error = refl; ordinary = refl }

pub pick_same : (d : Dispatcher) → Same d (after d picks)
unfolding after pick_of
pick_same d =
    by-test (error_turn d) _ _ Q (λ _. polled_same d true (next_of d.error))
    (λ _. by-test (some d.ordinary) _ _ Q (λ _. polled_same d false (next_of d.ordinary)) (λ _. same d))
  where
    Q : Turn → Type 0
    Q t = Same d t.0

same-present : (d c : Dispatcher) → Same d c → (x : ℕ) → present c x ≡ present d x
same-present d c s x = rw (s.in-error, s.ordinary)

pub pick-present : (d : Dispatcher) (x : ℕ) → present (after d picks) x ≡ present d x
pick-present d x = same-present d (after d picks) (pick_same d) x

pub pick-error : (d : Dispatcher) (x : ℕ) → in_error (after d picks) x ≡ in_error d x
pick-error d x = ap (λ (s : Addresses). holds s x) (pick_same d).in-error

-- ---- the sets of a dispatcher are whole: four words each, as every value of the struct has them

pub record Whole (d : Dispatcher) : Type 0 where
  pub in-error : length d.error.members.words ≡ 4
  pub ordinary : length d.ordinary.members.words ≡ 4

including-length : (s : Addresses) (a : ℕ) → length (including s a).words ≡ length s.words
unfolding including
including-length s a = simp length-set

excluding-length : (s : Addresses) (a : ℕ) → length (excluding s a).words ≡ length s.words
unfolding excluding
excluding-length s a = simp length-set

whole-report : (d : Dispatcher) (a : ℕ) (e : Bool) → Whole d → Whole (with_report d a e)
whole-report d a true w = record { in-error = including-length _ a ∙ w.in-error; ordinary = excluding-length _ a ∙ w.ordinary }
whole-report d a false w = record { in-error = excluding-length _ a ∙ w.in-error; ordinary = including-length _ a ∙ w.ordinary }

pub whole-after : (d : Dispatcher) (s : Step) → Whole d → Whole (after d s)
unfolding after report_of
whole-after d picks w = record { in-error = ap (λ (s : Addresses). length s.words) (pick_same d).in-error ∙ w.in-error; ordinary = ap (λ (s : Addresses). length s.words) (pick_same d).ordinary ∙ w.ordinary }
whole-after d (reports a e) w = by-test (registered d a) _ _ (λ (r : Answer). Whole r.0) (λ _. whole-report d a e w) (λ _. w)
whole-after d (registers a) w = register-ways d a Whole w (λ _ _ _. record { in-error = w.in-error; ordinary = including-length _ a ∙ w.ordinary })

whole_from : (ss : List Step) (d : Dispatcher) → Whole d → Whole (ran d ss)
unfolding ran
whole_from [] d w = w
whole_from (s ∷ ss) d w = whole_from ss (after d s) (whole-after d s w)

pub whole_fresh : Whole fresh_of
whole_fresh = record { in-error = refl; ordinary = refl }

pub whole-ran : (ss : List Step) → Whole (ran fresh_of ss)
whole-ran ss = whole_from ss fresh_of whole_fresh

-- ---- who is in which group after a panel entered or left

module _ (g : Group) (w : length g.members.words ≡ 4) (a : ℕ) (high : a < 256) where
  pub entered-same : member (entered g a) a ≡ true
  entered-same = including-same g.members w a high

  pub left-same : member (left g a) a ≡ false
  left-same = excluding-same g.members w a high

  pub entered-other : (x : ℕ) → (x ≡ a → ⊥) → member (entered g a) x ≡ member g x
  entered-other x n = including-other g.members w a high x n

  pub left_other : (x : ℕ) → (x ≡ a → ⊥) → member (left g a) x ≡ member g x
  left_other x n = excluding-other g.members w a high x n

module _ (d : Dispatcher) (w : Whole d) (a : ℕ) (high : a < 256) where
  -- a report puts its panel into one group and takes it out of the other
  pub report-error : (e : Bool) → member (with_report d a e).error a ≡ e
  report-error true = entered-same d.error w.in-error a high
  report-error false = left-same d.error w.in-error a high

  pub report-ordinary : (e : Bool) → member (with_report d a e).ordinary a ≡ not e
  report-ordinary true = left-same d.ordinary w.ordinary a high
  report-ordinary false = entered-same d.ordinary w.ordinary a high

  -- and leaves the others
  pub report-error-other : (e : Bool) (x : ℕ) → (x ≡ a → ⊥) → member (with_report d a e).error x ≡ member d.error x
  report-error-other true x n = entered-other d.error w.in-error a high x n
  report-error-other false x n = left_other d.error w.in-error a high x n

  pub report-ordinary-other : (e : Bool) (x : ℕ) → (x ≡ a → ⊥) → member (with_report d a e).ordinary x ≡ member d.ordinary x
  report-ordinary-other true x n = left_other d.ordinary w.ordinary a high x n
  report-ordinary-other false x n = entered-other d.ordinary w.ordinary a high x n

or-not : (e : Bool) → e || not e ≡ true
or-not true = refl
or-not false = refl

-- ---- a report changes nobody's being registered, and only its own panel's being in error

pub report-present : (d : Dispatcher) → Whole d → (a : ℕ) (e : Bool) (x : ℕ) → present (after d (reports a e)) x ≡ present d x
unfolding after report_of
report-present d w a e x =
    by-test (registered d a) _ _ (λ (r : Answer). present r.0 x ≡ present d x)
    (λ t. let r = registered-is d a t in
    let h : a < 256 = omega arith in
    either (eqb x a)
    (λ same. let i = eqb→eq x a same in
    ap (present (with_report d a e)) i ∙ rw (report-error d w a h e, report-ordinary d w a h e) (or-not e) ∙ sym (ap (present d) i ∙ r.is))
    (λ other. let n = eqb-false x a (is_false (eqb x a) other) in
    rw (report-error-other d w a h e x n, report-ordinary-other d w a h e x n)))
    (λ _. refl)

pub report-own : (d : Dispatcher) → Whole d → (a : ℕ) (e : Bool) → T (registered d a) → in_error (after d (reports a e)) a ≡ e
unfolding after report_of
report-own d w a e t =
    let r = registered-is d a t in
    ap (λ (b : Bool). in_error (cond b (taken (with_report d a e)) (refused d NoPanel)).0 a) (is_true (registered d a) t) ∙ report-error d w a (omega arith) e

pub report-others : (d : Dispatcher) → Whole d → (a : ℕ) (e : Bool) (x : ℕ) → (x ≡ a → ⊥) → in_error (after d (reports a e)) x ≡ in_error d x
unfolding after report_of
report-others d w a e x n =
    by-test (registered d a) _ _ (λ (r : Answer). in_error r.0 x ≡ in_error d x)
    (λ t. let r = registered-is d a t in report-error-other d w a (omega arith) e x n)
    (λ _. refl)

-- a report that does not change the group of a
pub report-keeps : (d : Dispatcher) → Whole d → (a b : ℕ) (e g : Bool) → (b ≡ a → e ≡ g) → in_error d a ≡ g → in_error (after d (reports b e)) a ≡ g
unfolding after report_of
report-keeps d w a b e g f h =
    by-test (registered d b) _ _ (λ (r : Answer). in_error r.0 a ≡ g)
    (λ t. let r = registered-is d b t in
    let l : b < 256 = omega arith in
    either (eqb a b)
    (λ same. let i = eqb→eq a b same in ap (in_error (with_report d b e)) i ∙ report-error d w b l e ∙ f (sym i))
    (λ other. report-error-other d w b l e a (eqb-false a b (is_false (eqb a b) other)) ∙ h))
    (λ _. h)
