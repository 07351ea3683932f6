-- The laws of a turn: when a group has a next member, and which group a pick polls.
use Rattle.std.specs.Prelude.{◌≡◌, Bool, true, false, ◌&&◌, ℕ, Option, None, Some, suc, ◌-◌, ◌<◌}
use Rattle.std.specs.Option.{is_some}
use Rattle.std.proofs.Common.{sym, ◌∙◌, ap, arith}
use Rattle.std.proofs.Math.Path.{ap₂}
use Rattle.std.proofs.Math.Bool.{not}
use Rattle.std.proofs.lemmas.Option.{none-some}
use Rattle.integers.specs.TestLaws.{and-false, clash}
use Rattle.addresses.specs.Addresses.{is_empty}
use Rattle.addresses.proofs.AddressLaws.{empty-lowest}
use Rattle.addresses.specs.Search.{lowest_above}
use Rattle.addresses.proofs.SearchLaws.{by_found, lowest-none, lowest-is}
use Rattle.dispatcher.specs.declared.Group.{Group}
use Rattle.dispatcher.specs.declared.Dispatcher.{Dispatcher}
use Rattle.dispatcher.specs.Dispatch.{group_of, member, some, next_of, after_error, error_turn, kept_of, polled_of, polls, pick_of}

-- ---- a group with a member, and one with none

module _ (g : Group) where
  abbrev higher : Option ℕ
  higher = lowest_above (member g) g.last

  abbrev lowest : Option ℕ
  lowest = lowest_above (member g) 0

  -- whoever passes shows that the group has a member
  pub some-member : (a : ℕ) → 0 < a → a < 256 → member g a ≡ true → some g ≡ true
  some-member a low high is =
      by_found lowest
      (λ e. absurd (clash (lowest-none (member g) 1 255 e a (omega arith) (omega arith)) is))
      (λ b e. ap is_some e)

  -- what the next is: the first of the definition's two that is there
  pub next-higher : (b : ℕ) → higher ≡ Some b → next_of g ≡ Some b
  unfolding next_of
  next-higher b h = rw h

  pub next-lowest : higher ≡ None → next_of g ≡ lowest
  unfolding next_of
  next-lowest h = rw h

  pub next-none : next_of g ≡ None → some g ≡ false
  next-none e =
      by_found higher
      (λ h. ap is_some (sym (next-lowest h) ∙ e))
      (λ b h. absurd (none-some b (sym e ∙ next-higher b h)))

  pub next-some : (a : ℕ) → next_of g ≡ Some a → some g ≡ true
  next-some a e =
      by_found higher
      (λ h. ap is_some (sym (next-lowest h) ∙ e))
      (λ b h. let r = lowest-is (member g) (suc g.last) (255 - g.last) b h in
      some-member b (omega arith) (omega arith) r.passes)

  pub some-next : some g ≡ true → (b : ℕ) × (next_of g ≡ Some b)
  some-next s =
      by_found higher
      (λ h. by_found lowest (λ z. absurd (clash (ap is_some z) s)) (λ b f. (b, next-lowest h ∙ f)))
      (λ b h. (b, next-higher b h))

  pub next-empty : is_empty g.members ≡ true → next_of g ≡ None
  next-empty e = next-lowest (empty-lowest g.members e g.last) ∙ empty-lowest g.members e 0

-- ---- which group a pick polls

module _ (d : Dispatcher) where
  pub pick-nobody : some d.error ≡ false → some d.ordinary ≡ false → pick_of d ≡ (d, None)
  unfolding pick_of error_turn
  pick-nobody e o = rw (e, o)

  -- a panel in error, where no ordinary one is registered
  pub pick-error-alone : some d.error ≡ true → some d.ordinary ≡ false → pick_of d ≡ polls d true
  unfolding pick_of error_turn
  pick-error-alone e o = rw (e, o, and-false (after_error d))

  -- or the last poll was of an ordinary one
  pub pick-error-first : some d.error ≡ true → after_error d ≡ false → pick_of d ≡ polls d true
  unfolding pick_of error_turn
  pick-error-first e f = rw (e, f)

  -- an ordinary one, where none is in error
  pub pick-ordinary-alone : some d.error ≡ false → some d.ordinary ≡ true → pick_of d ≡ polls d false
  unfolding pick_of error_turn
  pick-ordinary-alone e o = rw (e, o)

  -- or the last poll was of one in error: another such is barred
  barred : some d.ordinary ≡ true → after_error d ≡ true → error_turn d ≡ false
  unfolding error_turn
  barred o f = ap₂ (λ (x y : Bool). some d.error && not (x && y)) f o ∙ and-false (some d.error)

  pub pick-ordinary-between : some d.ordinary ≡ true → after_error d ≡ true → pick_of d ≡ polls d false
  unfolding pick_of
  pick-ordinary-between o f = rw (barred o f, o)

  -- the group that comes first is the other one than that of the last poll, if it has a panel
  pub pick_first : (f : Bool) → after_error d ≡ f → some (group_of d (not f)) ≡ true → pick_of d ≡ polls d (not f)
  pick_first true e s = pick-ordinary-between s e
  pick_first false e s = pick-error-first s e

  pub pick_second : (f : Bool) → after_error d ≡ f → some (group_of d (not f)) ≡ false → some (group_of d f) ≡ true → pick_of d ≡ polls d f
  pick_second true e n s = pick-error-alone s n
  pick_second false e n s = pick-ordinary-alone n s

  pub pick-none : (f : Bool) → some (group_of d (not f)) ≡ false → some (group_of d f) ≡ false → pick_of d ≡ (d, None)
  pick-none true o e = pick-nobody e o
  pick-none false e o = pick-nobody e o

  -- by the next of each group: the one that comes first, else the other
  module _ (f : Bool) (is : after_error d ≡ f) where
    pub polled-first : (a : ℕ) → next_of (group_of d (not f)) ≡ Some a → pick_of d ≡ (kept_of d (not f) a, Some a)
    polled-first a n = pick_first f is (next-some (group_of d (not f)) a n) ∙ ap (polled_of d (not f)) n

    pub polled-second : (b : ℕ) → next_of (group_of d (not f)) ≡ None → next_of (group_of d f) ≡ Some b → pick_of d ≡ (kept_of d f b, Some b)
    polled-second b n m = pick_second f is (next-none (group_of d (not f)) n) (next-some (group_of d f) b m) ∙ ap (polled_of d f) m

    pub polled-none : next_of (group_of d (not f)) ≡ None → next_of (group_of d f) ≡ None → pick_of d ≡ (d, None)
    polled-none n m = pick-none f (next-none (group_of d (not f)) n) (next-none (group_of d f) m)
