-- `dispatcher::pick` meets its contract: the other group than that of the last poll comes first, if it has a member.
use Rattle.std.proofs.Common.{◌≡◌, ℕ, Option, None, Some, refl, sym, ◌∙◌, ap, rules}
use Rattle.dispatcher.specs.Dispatch.{next_of, after_error}
use Rattle.dispatcher.proofs.TurnLaws.{polled-first, polled-second, polled-none}
use Rattle.dispatcher.proofs.Dispatcher.pick.Goals as goal

-- what is not some address is none
none-else : (o : Option ℕ) → ((a : ℕ) → o ≡ Some a → ⊥) → o ≡ None
none-else None n = refl
none-else (Some a) n = absurd (n a refl)

pub returns-in-Some : goal.returns-in-Some
returns-in-Some c = let d = c.args.self.now in
    let first = sym (ap next_of c.group.ensures) ∙ sym c.next.ensures ∙ c.in-Some.is in
    rw c.keep.ensures (sym (polled-first d (after_error d) refl c.in-Some.a first))

pub returns-in_err-b : goal.returns-in_err-b
returns-in_err-b c = let d = c.args.self.now in
    let first = sym (ap next_of c.group.ensures) ∙ sym c.next.ensures ∙ none-else c.next.result (λ a e. search rules) in
    let second = sym (ap next_of c.group-2.ensures) ∙ sym c.next-2.ensures ∙ c.in_err-b.was in
    rw c.from_residual.ensures (sym (polled-none d (after_error d) refl first second))

pub returns : goal.returns
returns c = let d = c.args.self.now in
    let first = sym (ap next_of c.group.ensures) ∙ sym c.next.ensures ∙ none-else c.next.result (λ a e. search rules) in
    let second = sym (ap next_of c.group-2.ensures) ∙ sym c.next-2.ensures ∙ c.in_ok-b.was in
    rw c.keep-2.ensures (sym (polled-second d (after_error d) refl c.in_ok-b.b first second))
