-- The sentences of K12 beside the promise, proved. Of every run: the groups have no panel in common, and only addresses from 1 to 247 are in them.
use Rattle.std.specs.Prelude.{◌≡◌, refl, Bool, true, false, not, cond, ◌&&◌, ◌||◌, List, [], ◌∷◌, ℕ, Option, None, Some, zero, suc, ◌-◌, ◌/◌, ◌%◌, ◌≤◌, ◌<◌, get_or, replicate, T, leb, eqb}
use Rattle.std.proofs.Common.{sym, ◌∙◌, ap, arith, eqb→eq, leb→le, leb-false}
use Rattle.std.proofs.Math.Dec.{nleb→lt}
use Rattle.std.specs.Option.{is_some}
use Rattle.std.proofs.lemmas.Bool.{not-true, eqb-false}
use Rattle.std.proofs.lemmas.Option.{none-some, same_Some}
use Rattle.integers.specs.ChoiceLaws.{by-test, either, is_true, is_false, true-is}
use Rattle.integers.specs.TestLaws.{and_both, or-both, or-true, clash}
use Rattle.bits.specs.Bits.{bit_at}
use Rattle.bits.proofs.BitLaws.{bit-none}
use Rattle.addresses.specs.declared.Addresses.{Addresses}
use Rattle.addresses.specs.Addresses.{nothing, holds}
use Rattle.addresses.specs.Search.{lowest_above}
use Rattle.addresses.proofs.SearchLaws.{by_found, lowest-none, lowest-is, count_same, count-more, count_none, count-zero}
use Rattle.dispatcher.specs.declared.Group.{Group}
use Rattle.dispatcher.specs.declared.Dispatcher.{Dispatcher}
use Rattle.dispatcher.specs.Dispatch.{outside, present, registered, in_error, member, some, panels, next_of, after_error, error_turn, Answer, Turn, polled_of, polls, group_of, with_panel, with_report, fresh_of, register_of, report_of, pick_of}
use Rattle.dispatcher.proofs.TurnLaws.{some-member, next-higher, next-lowest, next-some, some-next, pick-nobody}
use Rattle.dispatcher.proofs.CallLaws.{inside, in-range}
use Rattle.waiting.specs.Steps.{Step, picks, reports, registers, after, ran, no_pick}
use Rattle.waiting.specs.Rules.{NeverTwo, Turns, NoneOnlySo, ChosenRegistered, RegisterNumbers, ReportNumbers, Numbers, AtMost32, UntilReported, NobodyLeaves}
use Rattle.waiting.proofs.StepLaws.{whole_fresh, registered-is, report-still, register-ways, register-still, pick_same, pick-present, pick-error, Whole, whole-after, whole-ran, entered-same, entered-other, report-error, report-ordinary, report-error-other, report-ordinary-other, report-present, report-own, report-others}
use Rattle.waiting.specs.OrderLaws.{lowest-at_most, next-nearest}

-- ---- the numbers, each in its own condition and in no other; a refusal changes nothing

register-numbers : (d : Dispatcher) (a : ℕ) → RegisterNumbers d a (register_of d a)
unfolding register_of
register-numbers d a =
    by-test (outside a) _ _ (RegisterNumbers d a)
    (λ o. record { no_address = λ _. o; twice = λ e. absurd (omega arith); too_many = λ e. absurd (omega arith); joined = λ e. absurd (omega arith); unchanged = λ _. refl })
    (λ i. by-test (present d a) _ _ (RegisterNumbers d a)
    (λ p. record { no_address = λ e. absurd (omega arith); twice = λ _. (i, p); too_many = λ e. absurd (omega arith); joined = λ e. absurd (omega arith); unchanged = λ _. refl })
    (λ p. by-test (leb 32 (panels d)) _ _ (RegisterNumbers d a)
    (λ m. record {
      no_address = λ e. absurd (omega arith);
      twice = λ e. absurd (omega arith);
      too_many = λ _. (i, p, leb→le 32 (panels d) m);
      joined = λ e. absurd (omega arith);
      unchanged = λ _. refl;
    })
    (λ m. record {
      no_address = λ e. absurd (omega arith);
      twice = λ e. absurd (omega arith);
      too_many = λ e. absurd (omega arith);
      joined = λ _. (i, p, nleb→lt 32 (panels d) m);
      unchanged = λ n. absurd (n refl);
    })))

report-numbers : (d : Dispatcher) (a : ℕ) (e : Bool) → ReportNumbers d a (report_of d a e)
unfolding report_of
report-numbers d a e =
    by-test (registered d a) _ _ (ReportNumbers d a)
    (λ t. record { no-panel = λ e. absurd (omega arith); taken = λ _. t; unchanged = λ n. absurd (n refl) })
    (λ t. record { no-panel = λ _. t; taken = λ e. absurd (omega arith); unchanged = λ _. refl })

pub numbers : Numbers
numbers d a = (register-numbers d a, report-numbers d a)

-- ---- a group with a member has a next one, and one without has none

next-member : (g : Group) (b : ℕ) → next_of g ≡ Some b → (0 < b) × (b < 256) × (member g b ≡ true)
next-member g b e =
    by_found (lowest_above (member g) 0)
    (λ n. absurd (clash (ap is_some n) (next-some g b e)))
    (λ low f. let r = lowest-is (member g) 1 255 low f in
    let m = next-nearest g low (omega arith) (omega arith) r.passes in
    let same : m.0 ≡ b = same_Some m.0 b (sym m.1 ∙ e) in
    let n = m.2 in
    (omega (arith, n.address), omega (arith, n.below), ap (member g) (sym same) ∙ n.passes))

none-member : (g : Group) → some g ≡ false → (x : ℕ) → 0 < x → x < 256 → member g x ≡ false
none-member g n x low high =
    either (member g x)
    (λ t. absurd (clash n (some-member g x low high (is_true (member g x) t))))
    (λ f. is_false (member g x) f)

-- ---- "Each group takes turns"

module _ (g : Group) where
  abbrev k : ℕ
  k = g.last

  abbrev up : Option ℕ
  up = lowest_above (member g) k

  turns-higher : (x : ℕ) → x < 256 → T (member g x) → k < x → (b : ℕ) × (next_of g ≡ Some b) × T (member g b) × (k < b) × (b ≤ x)
  turns-higher x high t above =
      let is = is_true (member g x) t in
      by_found up
      (λ e. absurd (clash (lowest-none (member g) (suc k) (255 - k) e x (omega arith) (omega arith)) is))
      (λ b e. let r = lowest-is (member g) (suc k) (255 - k) b e in
      let h = lowest-at_most r x (omega arith) is in
      (b, next-higher g b e, true-is (member g b) r.passes, omega arith, h))

  turns-lowest : ((x : ℕ) → x < 256 → T (member g x) → x ≤ k) →
      (x : ℕ) → 0 < x → x < 256 → T (member g x) → (b : ℕ) × (next_of g ≡ Some b) × T (member g b) × (0 < b) × (b ≤ x)
  turns-lowest none x low high t =
      let is = is_true (member g x) t in
      by_found (lowest_above (member g) 0)
      (λ z. absurd (clash (lowest-none (member g) 1 255 z x (omega arith) (omega arith)) is))
      (λ b f. let r = lowest-is (member g) 1 255 b f in
      let h = lowest-at_most r x (omega arith) is in
      let e : up ≡ None = by_found up (λ z. z)
      (λ c i. let q = lowest-is (member g) (suc k) (255 - k) c i in
      let h = none c (omega arith) (true-is (member g c) q.passes) in
      absurd (omega arith)) in
      (b, next-lowest g e ∙ f, true-is (member g b) r.passes, omega arith, h))

pub turns : Turns
turns g = record { higher = turns-higher g; lowest = turns-lowest g }

-- a turn of those in error: there is one, and no ordinary one after a poll of one in error
turn-halves : (d : Dispatcher) → error_turn d ≡ true → (some d.error ≡ true) × (after_error d ≡ true → some d.ordinary ≡ false)
unfolding error_turn
turn-halves d e =
    let h = and_both (some d.error) (not (after_error d && some d.ordinary)) e in
    (h.0, λ f. rw f at (not-true (after_error d && some d.ordinary) h.1))

-- what a group that polls chooses is its next
chosen-next : (d : Dispatcher) (g : Bool) (o c : Option ℕ) → (polled_of d g o).1 ≡ c → o ≡ c
chosen-next d g None c e = e
chosen-next d g (Some a) c e = e

-- ---- "A pick with no panel registered answers none"

module _ (d : Dispatcher) where
  none_in : (g : Group) → ((x : ℕ) → 0 < x → x < 256 → member g x ≡ false) → some g ≡ false
  none_in g none =
      either (some g)
      (λ t. let n = some-next g (is_true (some g) t) in
      let m = next-member g n.0 n.1 in
      absurd (clash (none n.0 m.0 m.1) m.2))
      (λ f. is_false (some g) f)

  absent : panels d ≡ 0 → (x : ℕ) → 0 < x → x < 256 → (member d.error x ≡ false) × (member d.ordinary x ≡ false)
  absent e x low high = or-both (member d.error x) (member d.ordinary x) (count_none (present d) 1 255 e x (omega arith) (omega arith))

  none_then : panels d ≡ 0 → (pick_of d).1 ≡ None
  none_then e =
      ap (λ (t : Turn). t.1)
      (pick-nobody d (none_in d.error (λ x l h. (absent e x l h).0)) (none_in d.ordinary (λ x l h. (absent e x l h).1)))

  -- a group with a panel polls somebody
  chosen : (g : Bool) → some (group_of d g) ≡ true → (polls d g).1 ≡ None → ⊥
  chosen g s e = let n = some-next (group_of d g) s in none-some n.0 (sym (chosen-next d g (next_of (group_of d g)) None e) ∙ n.1)

  -- no turn of those in error, with no ordinary one: there is none in error
  no-error : some d.ordinary ≡ false → error_turn d ≡ false → some d.error ≡ false
  unfolding error_turn
  no-error = by-halves (some d.error) (after_error d) (some d.ordinary)
    where
      by-halves : (s f o : Bool) → o ≡ false → (s && not (f && o)) ≡ false → s ≡ false
      by-halves true true o e h = absurd (clash h (rw e))
      by-halves true false o e h = h
      by-halves false f o e h = refl

  -- where a pick answers none, no group has a panel
  no-groups : (pick_of d).1 ≡ None → (some d.error ≡ false) × (some d.ordinary ≡ false)
  unfolding pick_of
  no-groups =
      by-test (error_turn d) _ _ Q (λ t e. absurd (chosen true (turn-halves d (is_true (error_turn d) t)).0 e))
      (λ f. by-test (some d.ordinary) _ _ Q (λ s e. absurd (chosen false (is_true (some d.ordinary) s) e))
      (λ o _. (no-error (is_false (some d.ordinary) o) (is_false (error_turn d) f), is_false (some d.ordinary) o)))
    where
      Q : Turn → Type 0
      Q t = t.1 ≡ None → (some d.error ≡ false) × (some d.ordinary ≡ false)

  none_only : (pick_of d).1 ≡ None → panels d ≡ 0
  none_only e =
      let n = no-groups e in
      count-zero (present d) 1 255 (λ x l h. rw (none-member d.error n.0 x l (omega arith), none-member d.ordinary n.1 x l (omega arith)))

pub none-exactly : NoneOnlySo
none-exactly d = record { nobody = none_then d; only = none_only d }

-- ---- in every run the groups have no panel in common, and only addresses from 1 to 247

record Parted (d : Dispatcher) : Type 0 where
  apart : (x : ℕ) → member d.error x ≡ true → member d.ordinary x ≡ false
  named : (x : ℕ) → present d x ≡ true → (1 ≤ x) × (x ≤ 247)

-- where a dispatcher has the groups of another, but for one panel
module _ (d c : Dispatcher) (a : ℕ) (p : Parted d)
    (error-other : (x : ℕ) → (x ≡ a → ⊥) → member c.error x ≡ member d.error x)
    (ordinary-other : (x : ℕ) → (x ≡ a → ⊥) → member c.ordinary x ≡ member d.ordinary x)
    (here : member c.error a ≡ true → member c.ordinary a ≡ false) (range : (1 ≤ a) × (a ≤ 247)) where
  parted-but : Parted c
  parted-but = record {
    apart = λ x e. either (eqb x a)
        (λ s. let i = eqb→eq x a s in ap (member c.ordinary) i ∙ here (sym (ap (member c.error) i) ∙ e))
        (λ o. let n = eqb-false x a (is_false (eqb x a) o) in ordinary-other x n ∙ p.apart x (sym (error-other x n) ∙ e));
    named = λ x e. either (eqb x a)
        (λ s. let i = eqb→eq x a s in (omega (arith, range.0), omega (arith, range.1)))
        (λ o. let n = eqb-false x a (is_false (eqb x a) o) in p.named x (sym (rw (error-other x n, ordinary-other x n)) ∙ e));
  }

parted-after : (d : Dispatcher) (s : Step) → Whole d → Parted d → Parted (after d s)
unfolding after report_of
parted-after d picks w p = record {
  apart = λ x e. ap (λ (s : Addresses). holds s x) (pick_same d).ordinary ∙ p.apart x (sym (pick-error d x) ∙ e);
  named = λ x e. p.named x (sym (pick-present d x) ∙ e);
}
parted-after d (reports a e) w p =
    by-test (registered d a) _ _ (λ (r : Answer). Parted r.0)
    (λ t. let r = registered-is d a t in
    let h : a < 256 = omega arith in
    parted-but d (with_report d a e) a p (λ x n. report-error-other d w a h e x n) (λ x n. report-ordinary-other d w a h e x n)
    (λ i. report-ordinary d w a h e ∙ ap not (sym (report-error d w a h e) ∙ i)) (r.low, r.high))
    (λ _. p)
parted-after d (registers a) w p =
    register-ways d a Parted p
    (λ o n _. let r = in-range a o in
    parted-but d (with_panel d a) a p (λ x _. refl) (λ x m. entered-other d.ordinary w.ordinary a (omega (arith, r.1)) x m)
    (λ i. absurd (clash (or-both (member d.error a) (member d.ordinary a) n).0 i)) r)

parted-from : (ss : List Step) (d : Dispatcher) → Whole d → Parted d → Parted (ran d ss)
unfolding ran
parted-from [] d w p = p
parted-from (s ∷ ss) d w p = parted-from ss (after d s) (whole-after d s w) (parted-after d s w p)

-- nobody is in an empty group
zeros-at : (n i : ℕ) → ◌≡◌ {A = ℕ} (get_or (replicate n 0) i 0) 0
zeros-at zero i = refl
zeros-at (suc n) zero = refl
zeros-at (suc n) (suc i) = zeros-at n i

empty-member : (x : ℕ) → holds nothing x ≡ false
unfolding holds
empty-member x = ap (λ (w : ℕ). eqb (bit_at (x % 64) w) 1) (zeros-at 4 (x / 64)) ∙ ap (λ (b : ℕ). eqb b 1) (bit-none (x % 64))

parted-ran : (ss : List Step) → Parted (ran fresh_of ss)
parted-ran ss =
    parted-from ss fresh_of whole_fresh
    (record { apart = λ x e. empty-member x; named = λ x e. absurd (clash (rw (empty-member x)) e) })

-- ---- what a pick chooses

-- the poll of a group's next panel
pub data Polled (d : Dispatcher) (a : ℕ) : Type 0 where
  in-error : error_turn d ≡ true → member d.error a ≡ true → Polled d a
  ordinary : error_turn d ≡ false → member d.ordinary a ≡ true → Polled d a

polled-by : (d : Dispatcher) (a : ℕ) → (pick_of d).1 ≡ Some a → Polled d a
unfolding pick_of
polled-by d a =
    by-test (error_turn d) _ _ Q
    (λ t e. in-error (is_true (error_turn d) t) (passes true e))
    (λ f. by-test (some d.ordinary) _ _ Q
    (λ s e. ordinary (is_false (error_turn d) f) (passes false e))
    (λ _ e. absurd (none-some a e)))
  where
    Q : Turn → Type 0
    Q t = t.1 ≡ Some a → Polled d a

    passes : (g : Bool) → (polls d g).1 ≡ Some a → member (group_of d g) a ≡ true
    passes g e = (next-member (group_of d g) a (chosen-next d g (next_of (group_of d g)) (Some a) e)).2

pub chosen-registered : ChosenRegistered
chosen-registered before a e = by-poll (polled-by d a e)
  where
    d : Dispatcher
    d = ran fresh_of before

    there : present d a ≡ true → T (registered d a)
    there p = let r = (parted-ran before).named a p in true-is (registered d a) (rw (inside a r.0 r.1, p))

    by-poll : Polled d a → T (registered d a)
    by-poll (in-error _ m) = there (rw m)
    by-poll (ordinary _ m) = there (rw (m, or-true (member d.error a)))

-- ---- "never two such polls in a row while an ordinary panel is registered"

between-still : (ss : List Step) (d : Dispatcher) → T (no_pick ss) → (ran d ss).faulty ≡ d.faulty
unfolding no_pick ran
between-still [] d b = refl
between-still (picks ∷ ss) d b = absurd b
between-still (reports a e ∷ ss) d b = between-still ss (after d (reports a e)) b ∙ (report-still d a e).faulty
between-still (registers a ∷ ss) d b = between-still ss (after d (registers a)) b ∙ (register-still d a).faulty

-- a poll of a panel in error is a turn of those in error
error-turn : (d : Dispatcher) (a : ℕ) → Parted d → (pick_of d).1 ≡ Some a → T (in_error d a) → error_turn d ≡ true
error-turn d a p e i = by-poll (polled-by d a e)
  where
    by-poll : Polled d a → error_turn d ≡ true
    by-poll (in-error t _) = t
    by-poll (ordinary _ m) = absurd (clash (p.apart a (is_true (in_error d a) i)) m)

after-error : (d : Dispatcher) → error_turn d ≡ true → (after d picks).faulty ≡ 1
unfolding after pick_of
after-error d e =
    ap (λ (b : Bool). (cond b (polls d true) (cond (some d.ordinary) (polls d false) (d, None))).0.faulty) e
    ∙ ap (λ (o : Option ℕ). (polled_of d true o).0.faulty) (some-next d.error (turn-halves d e).0).1

pub never-two : NeverTwo
never-two before between a b quiet e i f j x t =
    let d = ran fresh_of before in
    let c = ran (after d picks) between in
    let w = whole-ran before in
    let p = parted-ran before in
    let q = parted-from between (after d picks) (whole-after d picks w) (parted-after d picks w p) in
    let fault = ap (λ (n : ℕ). eqb n 1) (between-still between (after d picks) quiet ∙ after-error d (error-turn d a p e i)) in
    let none = (turn-halves c (error-turn c b q f j)).1 fault in
    let r = registered-is c x t in
    either (in_error c x) (λ y. y)
    (λ n. absurd (clash (none-member c.ordinary none x r.low (omega arith)) (rw (is_false (in_error c x) n) at r.is)))

-- ---- "up to 32 panels"

step-most : (d : Dispatcher) (s : Step) → Whole d → panels d ≤ 32 → panels (after d s) ≤ 32
step-most d picks w h = rw (count_same (present d) (present (after d picks)) 1 255 (pick-present d)) h
step-most d (reports a e) w h = rw (count_same (present d) (present (after d (reports a e))) 1 255 (report-present d w a e)) h
step-most d (registers a) w h =
    register-ways d a (λ (c : Dispatcher). panels c ≤ 32) h
    (λ o p m. let r = in-range a o in
    let more = count-more (present d) (present (with_panel d a)) a
    (λ x n. ap (λ (b : Bool). member d.error x || b) (entered-other d.ordinary w.ordinary a (omega (arith, r.1)) x n)) 1 255 in
    omega (arith, leb-false 32 (panels d) m))

most-from : (ss : List Step) (d : Dispatcher) → Whole d → panels d ≤ 32 → panels (ran d ss) ≤ 32
unfolding ran
most-from [] d w h = h
most-from (s ∷ ss) d w h = most-from ss (after d s) (whole-after d s w) (step-most d s w h)

pub at-most-32 : AtMost32
at-most-32 ss = most-from ss fresh_of whole_fresh (omega (arith, count-zero (present fresh_of) 1 255 (λ x _ _. rw (empty-member x))))

-- ---- "in error from a report of an error until it reports none"

register-error : (d : Dispatcher) (a x : ℕ) → in_error (after d (registers a)) x ≡ in_error d x
register-error d a x = register-ways d a (λ (c : Dispatcher). in_error c x ≡ in_error d x) refl (λ _ _ _. refl)

pub until-reported : UntilReported
until-reported before =
    let d = ran fresh_of before in
    let w = whole-ran before in
    record {
      reported = report-own d w;
      others = report-others d w;
      picked = pick-error d;
      joining = register-error d;
      new = λ a e. register-error d a a ∙ (or-both (member d.error a) (member d.ordinary a) (is_false (present d a) ((register-numbers d a).joined e).1)).0;
    }

-- ---- nobody leaves

pub nobody-leaves : NobodyLeaves
nobody-leaves before picks x t = true-is _ (pick-present (ran fresh_of before) x ∙ is_true _ t)
nobody-leaves before (reports a e) x t = true-is _ (report-present (ran fresh_of before) (whole-ran before) a e x ∙ is_true _ t)
nobody-leaves before (registers a) x t =
    let d = ran fresh_of before in
    register-ways d a (λ (c : Dispatcher). T (present c x)) t
    (λ o n _. let r = in-range a o in
    let h : a < 256 = omega (arith, r.1) in
    let w = (whole-ran before).ordinary in
    either (eqb x a)
    (λ s. let i = eqb→eq x a s in
    true-is (present (with_panel d a) x) (ap (present (with_panel d a)) i ∙ rw (entered-same d.ordinary w a h, or-true (member d.error a))))
    (λ m. let e = entered-other d.ordinary w a h x (eqb-false x a (is_false (eqb x a) m)) in true-is (present (with_panel d a) x) (rw e (is_true (present d x) t))))
