-- The promise of K12, proved. A poll of a's group takes the nearest member in the group's order, so it is a, or one of a's rivals: the panels of EITHER group
-- before a. The group's next order starts behind it, so a has one rival less; and no report makes a rival, since groups do not count. A poll of the other group
-- comes only after one of a's. So 2 * rivals, and 1 more where the last poll was of a's group, falls with every pick that does not choose a; it is below 2n,
-- since a is no rival of its own.
use Rattle.std.specs.Prelude.{◌≡◌, refl, Bool, true, false, not, cond, ◌&&◌, ◌||◌, List, [], ◌∷◌, ◌⊎◌, ℕ, Option, Some, zero, suc, ◌+◌, ◌*◌, ◌≤◌, ◌<◌, T, ltb, eqb, length}
use Rattle.std.proofs.Common.{sym, ◌∙◌, subst, ⊎_elim, arith, eqb→eq}
use Rattle.std.proofs.Math.Path.{ap}
use Rattle.std.specs.Bool.{beq}
use Rattle.std.proofs.Math.Logic.{inl, inr}
use borrow.Author.Tests.{ltb-true, lt-ltb, le-ltb, eqb-false, eq-eqb}
use Rattle.integers.specs.ChoiceLaws.{by-test, either, is_true, is_false, true-is}
use Rattle.integers.specs.TestLaws.{and_both, and-false}
use Rattle.addresses.specs.Search.{count_all}
use Rattle.addresses.proofs.SearchLaws.{count_less, count_same}
use Rattle.dispatcher.specs.declared.Dispatcher.{Dispatcher}
use Rattle.dispatcher.specs.Dispatch.{group_of, member, some, in_error, present, panels, fresh_of, next_of, after_error, kept_of, Turn, polled_of, polls, pick_of}
use Rattle.dispatcher.proofs.TurnLaws.{some-member, some-next, pick_first, pick_second}
use Rattle.waiting.specs.Steps.{Step, picks, reports, registers, after, ran, choices}
use Rattle.waiting.specs.Promise.{Steady, PolledWithin, Promise, quiet, QuietPromise}
use Rattle.waiting.proofs.StepLaws.{registered-is, Still, report-still, register-still, Whole, whole-ran, whole-after, pick-present, pick-error, report-present, report-keeps}
use Rattle.waiting.specs.OrderLaws.{way, way_same, way_on, way-last, Nearest, next-nearest}

-- ---- a panel is in its own group, and what that says of a pick

own : (d : Dispatcher) (a : ℕ) (g : Bool) → present d a ≡ true → in_error d a ≡ g → member (group_of d g) a ≡ true
own d a true p e = e
own d a false p e = rw e at p

module _ (d : Dispatcher) (a : ℕ) (low : 0 < a) (high : a < 256) where
  -- a pick polls the group of a, or the other one, if it has a panel, after a poll of a's
  abbrev Polls : Bool → Type 0
  Polls g = (pick_of d ≡ polls d g) ⊎ ((pick_of d ≡ polls d (not g)) × (some (group_of d (not g)) ≡ true) × (after_error d ≡ g))

  which : (g f : Bool) → after_error d ≡ f → member (group_of d g) a ≡ true → Polls g
  which true true e is =
      let s = some-member d.error a low high is in
      either (some d.ordinary) (λ t. let o = is_true (some d.ordinary) t in inr (pick_first d true e o, o, e)) (λ n. inl (pick_second d true e (is_false (some d.ordinary) n) s))
  which true false e is = inl (pick_first d false e (some-member d.error a low high is))
  which false true e is = inl (pick_first d true e (some-member d.ordinary a low high is))
  which false false e is =
      let s = some-member d.ordinary a low high is in
      either (some d.error) (λ t. let o = is_true (some d.error) t in inr (pick_first d false e o, o, e)) (λ n. inl (pick_second d false e (is_false (some d.error) n) s))

-- ---- rivals

-- registered, in whichever group, and before a in the order from k
abbrev rival : (ℕ → Bool) → ℕ → ℕ → ℕ → Bool
rival p k a x = p x && ltb (way k x) (way k a)

rivals : (ℕ → Bool) → ℕ → ℕ → ℕ
rivals p k a = count_all (rival p k a)

-- one less, where a rival is polled
rivals-fewer : (p : ℕ → Bool) (k a b : ℕ) → a < 256 → 0 < b → b < 256 → p b ≡ true → way k b < way k a → rivals p b a < rivals p k a
unfolding rivals
rivals-fewer p k a b ha low high is before =
    count_less (rival p k a) (rival p b a) 1 255
    (λ x g h e. let w = and_both (p x) (ltb (way b x) (way b a)) e in
    rw w.0 (lt-ltb (way k x) (way k a) (way_on k a b x ha high (omega arith) before (ltb-true (way b x) (way b a) w.1))))
    b (omega arith) (omega arith)
    (rw is (lt-ltb (way k b) (way k a) before))
    (ap (λ (c : Bool). p b && c) (le-ltb (way b b) (way b a) (let h = way-last a b ha in omega arith)) ∙ and-false (p b))

-- a is not its own
rivals-most : (p : ℕ → Bool) (k a : ℕ) → 0 < a → a < 256 → p a ≡ true → rivals p k a < count_all p
unfolding rivals
rivals-most p k a low high is =
    count_less p (rival p k a) 1 255 (λ x g h e. (and_both (p x) (ltb (way k x) (way k a)) e).0) a (omega arith) (omega arith) is
    (ap (λ (c : Bool). p a && c) (le-ltb (way k a) (way k a) (omega arith)) ∙ and-false (p a))

rivals-same : (p q : ℕ → Bool) (k a : ℕ) → ((x : ℕ) → q x ≡ p x) → rivals q k a ≡ rivals p k a
unfolding rivals
rivals-same p q k a same = count_same (rival p k a) (rival q k a) 1 255 (λ x. ap (λ (c : Bool). c && ltb (way k x) (way k a)) (same x))

-- ---- what falls with every pick

-- 1 where the last poll was of the group
waits : Bool → Bool → ℕ
waits faulty g = cond (beq faulty g) 1 0

waits-most : (f g : Bool) → waits f g ≤ 1
unfolding waits
waits-most f g = by-test (beq f g) 1 0 (λ (n : ℕ). n ≤ 1) (λ _. omega arith) (λ _. omega arith)

waits-own : (g : Bool) → waits g g ≡ 1
unfolding waits
waits-own true = refl
waits-own false = refl

remaining : Dispatcher → Bool → ℕ → ℕ
remaining d g a = 2 * rivals (present d) (group_of d g).last a + waits (after_error d) g

-- after a poll of the group, and after one of the other
remaining-own : (d : Dispatcher) (g : Bool) (a b : ℕ) → remaining (kept_of d g b) g a ≤ 2 * rivals (present d) b a + 1
unfolding remaining
remaining-own d true a b = omega (arith, waits-most true true)
remaining-own d false a b = omega (arith, waits-most false false)

remaining-other : (d : Dispatcher) (g : Bool) (a b : ℕ) → remaining (kept_of d (not g) b) g a ≡ 2 * rivals (present d) (group_of d g).last a
unfolding remaining waits
remaining-other d true a b = omega arith
remaining-other d false a b = omega arith

-- after a step that is no pick
remaining-same : (d c : Dispatcher) (g : Bool) (a : ℕ) → ((x : ℕ) → present c x ≡ present d x) → Still d c → remaining c g a ≡ remaining d g a
unfolding remaining
remaining-same d c true a same s = rw (s.in-error, s.faulty, rivals-same (present d) (present c) d.error.last a same)
remaining-same d c false a same s = rw (s.ordinary, s.faulty, rivals-same (present d) (present c) d.ordinary.last a same)

-- ---- one pick

member-present : (d : Dispatcher) (g : Bool) (b : ℕ) → member (group_of d g) b ≡ true → present d b ≡ true
member-present d true b e = rw e
member-present d false b e = either (member d.error b) (λ t. rw (is_true (member d.error b) t)) (λ f. rw (is_false (member d.error b) f, e))

module _ (d : Dispatcher) (a : ℕ) (low : 0 < a) (high : a < 256) where
  -- it chooses a, or less remains
  Falls : Bool → Turn → Type 0
  Falls g t = (t.1 ≡ Some a) ⊎ (remaining t.0 g a < remaining d g a)

  -- the poll of a group's next
  to_next : (g h : Bool) (o p : Option ℕ) → o ≡ p → Falls g (polled_of d h p) → Falls g (polled_of d h o)
  to_next g h o p e f = subst (λ (q : Option ℕ). Falls g (polled_of d h q)) (sym e) f

  own-poll : (g : Bool) (b : ℕ) → Nearest (group_of d g) a b → Falls g (polled_of d g (Some b))
  unfolding Falls remaining
  own-poll g b m =
      let k = (group_of d g).last in
      either (eqb b a)
      (λ same. inl (ap Some (eqb→eq b a same)))
      (λ other.
      let n : way k b ≡ way k a → ⊥ = λ e. eqb-false b a (is_false (eqb b a) other) (way_same k b a m.below high e) in
      let f = rivals-fewer (present d) k a b high m.address m.below (member-present d g b m.passes) (omega arith) in
      inr (omega (arith, remaining-own d g a b)))

  own-falls : (g : Bool) → member (group_of d g) a ≡ true → Falls g (polls d g)
  own-falls g is =
      let n = next-nearest (group_of d g) a low high is in
      to_next g g (next_of (group_of d g)) (Some n.0) n.1 (own-poll g n.0 n.2)

  other-poll : (g : Bool) → after_error d ≡ g → (b : ℕ) → Falls g (polled_of d (not g) (Some b))
  unfolding Falls remaining
  other-poll g e b = inr (omega (arith, remaining-other d g a b, ap (λ (f : Bool). waits f g) e, waits-own g))

  other-falls : (g : Bool) → some (group_of d (not g)) ≡ true → after_error d ≡ g → Falls g (polls d (not g))
  other-falls g s e =
      let n = some-next (group_of d (not g)) s in
      to_next g (not g) (next_of (group_of d (not g))) (Some n.0) n.1 (other-poll g e n.0)

  falls : (g : Bool) → member (group_of d g) a ≡ true → Falls g (pick_of d)
  falls g is =
      ⊎_elim
      (λ e. subst (Falls g) (sym e) (own-falls g is))
      (λ w. subst (Falls g) (sym w.0) (other-falls g w.1 w.2))
      (which d a low high g (after_error d) refl is)

-- ---- the list

later : (m a : ℕ) (c : Option ℕ) (cs : List (Option ℕ)) → PolledWithin m a cs → PolledWithin (suc m) a (c ∷ cs)
later m a c cs w = (suc w.0, omega arith, w.2)

reach : (g : Bool) (a m : ℕ) (ss : List Step) (d : Dispatcher) → 0 < a → a < 256 → present d a ≡ true → in_error d a ≡ g → Steady a d ss →
    remaining d g a < m → m ≤ length (choices d ss) → PolledWithin m a (choices d ss)
unfolding choices Steady after Falls
reach g a m [] d low high is e st h j = absurd (omega arith)
reach g a zero (picks ∷ ss) d low high is e st h j = absurd (omega arith)
reach g a (suc m) (picks ∷ ss) d low high is e st h j =
    ⊎_elim
    (λ c. (0, omega arith, c))
    (λ f. later m a (pick_of d).1 (choices (after d picks) ss)
    (reach g a m ss (after d picks) low high (pick-present d a ∙ is) (pick-error d a ∙ e) st.2 (omega arith) (omega arith)))
    (falls d a low high g (own d a g is e))
reach g a m (reports b x ∷ ss) d low high is e st h j =
    reach g a m ss (after d (reports b x)) low high (st.0 a ∙ is) (st.1 ∙ e) st.2
    (omega (arith, remaining-same d (after d (reports b x)) g a st.0 (report-still d b x))) j
reach g a m (registers b ∷ ss) d low high is e st h j =
    reach g a m ss (after d (registers b)) low high (st.0 a ∙ is) (st.1 ∙ e) st.2
    (omega (arith, remaining-same d (after d (registers b)) g a st.0 (register-still d b))) j

-- THE PROMISE
pub promise : Promise
unfolding remaining
promise d a ss t st h =
    let r = registered-is d a t in
    reach (in_error d a) a (2 * panels d) ss d r.low (omega arith) r.is refl st
    (omega (arith, rivals-most (present d) (group_of d (in_error d a)).last a r.low (omega arith) r.is, waits-most (after_error d) (in_error d a)))
    h

-- ---- picks and reports alone

-- a report that is quiet leaves the group of a
quiet-report : (a b : ℕ) (e g : Bool) → (not (eqb b a) || beq e g) ≡ true → b ≡ a → e ≡ g
quiet-report a b e g q s = same e g (rw (eq-eqb b a s) at q)
  where
    same : (e g : Bool) → beq e g ≡ true → e ≡ g
    same true true q = refl
    same false false q = refl
    same true false q = sym q
    same false true q = q

quiet-steady : (a : ℕ) (g : Bool) (ss : List Step) (d : Dispatcher) → Whole d → in_error d a ≡ g → T (quiet a g ss) → Steady a d ss
unfolding quiet Steady
quiet-steady a g [] d w h q = tt
quiet-steady a g (picks ∷ ss) d w h q = (pick-present d, pick-error d a, quiet-steady a g ss (after d picks) (whole-after d picks w) (pick-error d a ∙ h) q)
quiet-steady a g (reports b x ∷ ss) d w h q =
    let s = and_both (not (eqb b a) || beq x g) (quiet a g ss) (is_true ((not (eqb b a) || beq x g) && quiet a g ss) q) in
    let i = report-keeps d w a b x g (quiet-report a b x g s.0) h in
    (report-present d w b x, i ∙ sym h, quiet-steady a g ss (after d (reports b x)) (whole-after d (reports b x) w) i (true-is (quiet a g ss) s.1))
quiet-steady a g (registers b ∷ ss) d w h q = absurd q

pub quiet-promise : QuietPromise
quiet-promise before a ss t q h =
    let d = ran fresh_of before in
    promise d a ss t (quiet-steady a (in_error d a) ss d (whole-ran before) refl q) h
