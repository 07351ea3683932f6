-- Paper 02, K12, the sentences beside the promise, stated of every run or of every dispatcher. This file is definitions only; RuleLaws proves them.
use Rattle.std.specs.Prelude.{◌≡◌, Bool, false, not, List, ℕ, None, Some, ◌≤◌, ◌<◌, T}
use Rattle.dispatcher.specs.declared.Group.{Group}
use Rattle.dispatcher.specs.declared.Dispatcher.{Dispatcher}
use Rattle.dispatcher.specs.Dispatch.{fresh_of, outside, present, registered, in_error, member, panels, next_of, Answer, number_of, register_of, report_of, pick_of}
use Rattle.waiting.specs.Steps.{Step, picks, reports, registers, after, ran, no_pick}

-- "never two such polls in a row while an ordinary panel is registered": where a pick and the next one both choose a panel that is in error then, whoever is
-- registered at the second is in error
abbrev pub NeverTwo : Type 0
NeverTwo =
    (before between : List Step) (a b : ℕ) → T (no_pick between) →
    let d = ran fresh_of before in
    let e = ran (after d picks) between in
    (pick_of d).1 ≡ Some a → T (in_error d a) → (pick_of e).1 ≡ Some b → T (in_error e b) →
    (x : ℕ) → T (registered e x) → T (in_error e x)

-- "Each group takes turns: the next is the member with the next higher address after the one this group polled last, and at first or after the highest the
-- lowest". Addresses of a set are below 256, and 0 is nobody's
pub record TakesTurns (g : Group) : Type 0 where
  pub higher : (x : ℕ) → x < 256 → T (member g x) → g.last < x → (b : ℕ) × (next_of g ≡ Some b) × T (member g b) × (g.last < b) × (b ≤ x)
  pub lowest : ((x : ℕ) → x < 256 → T (member g x) → x ≤ g.last) →
      (x : ℕ) → 0 < x → x < 256 → T (member g x) → (b : ℕ) × (next_of g ≡ Some b) × T (member g b) × (0 < b) × (b ≤ x)

abbrev pub Turns : Type 0
Turns = (g : Group) → TakesTurns g

-- "A pick with no panel registered answers none", and no other
pub record NoneExactly (d : Dispatcher) : Type 0 where
  pub nobody : panels d ≡ 0 → (pick_of d).1 ≡ None
  pub only : (pick_of d).1 ≡ None → panels d ≡ 0

abbrev pub NoneOnlySo : Type 0
NoneOnlySo = (d : Dispatcher) → NoneExactly d

-- what a pick chooses is registered
abbrev pub ChosenRegistered : Type 0
ChosenRegistered = (before : List Step) (a : ℕ) → (pick_of (ran fresh_of before)).1 ≡ Some a → T (registered (ran fresh_of before) a)

-- "32 an address to register outside 1 to 247; 29 an address already present, tested after 32; 28 a 33rd panel, tested last", each "leaving the dispatcher unchanged"
pub record RegisterNumbers (d : Dispatcher) (a : ℕ) (r : Answer) : Type 0 where
  pub no_address : number_of r.1 ≡ 32 → T (outside a)
  pub twice : number_of r.1 ≡ 29 → T (not (outside a)) × T (present d a)
  pub too_many : number_of r.1 ≡ 28 → T (not (outside a)) × T (not (present d a)) × (32 ≤ panels d)
  pub joined : number_of r.1 ≡ 0 → T (not (outside a)) × T (not (present d a)) × (panels d < 32)
  pub unchanged : (number_of r.1 ≡ 0 → ⊥) → r.0 ≡ d

-- "32 .. a report from one not registered"
pub record ReportNumbers (d : Dispatcher) (a : ℕ) (r : Answer) : Type 0 where
  pub no-panel : number_of r.1 ≡ 32 → T (not (registered d a))
  pub taken : number_of r.1 ≡ 0 → T (registered d a)
  pub unchanged : (number_of r.1 ≡ 0 → ⊥) → r.0 ≡ d

abbrev pub Numbers : Type 0
Numbers = (d : Dispatcher) (a : ℕ) → RegisterNumbers d a (register_of d a) × ((e : Bool) → ReportNumbers d a (report_of d a e))

-- "up to 32 panels"
abbrev pub AtMost32 : Type 0
AtMost32 = (ss : List Step) → panels (ran fresh_of ss) ≤ 32

-- "A panel is in error from a report of an error until it reports none; otherwise it is ordinary"
pub record InErrorUntil (d : Dispatcher) : Type 0 where
  pub reported : (a : ℕ) (e : Bool) → T (registered d a) → in_error (after d (reports a e)) a ≡ e
  pub others : (a : ℕ) (e : Bool) (x : ℕ) → (x ≡ a → ⊥) → in_error (after d (reports a e)) x ≡ in_error d x
  pub picked : (x : ℕ) → in_error (after d picks) x ≡ in_error d x
  pub joining : (a x : ℕ) → in_error (after d (registers a)) x ≡ in_error d x
  pub new : (a : ℕ) → number_of (register_of d a).1 ≡ 0 → in_error (after d (registers a)) a ≡ false

abbrev pub UntilReported : Type 0
UntilReported = (before : List Step) → InErrorUntil (ran fresh_of before)

-- nobody leaves
abbrev pub NobodyLeaves : Type 0
NobodyLeaves = (before : List Step) (s : Step) (x : ℕ) → T (present (ran fresh_of before) x) → T (present (after (ran fresh_of before) s) x)
