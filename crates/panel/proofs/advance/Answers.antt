-- `panel::advance` meets its contract: switching and display follow where the event has them, and a step keeps the state valid.
use mathlib.Core.Bool.{true}
use mathlib.Core.List.{List}
use mathlib.Core.Path.{◌≡◌, sym, subst, ap, ◌∙◌}
use lib.IntN.{ℤ}
use Rattle.events.specs.declared.Event.{Event}
use Rattle.state.specs.declared.Live.{Live}
use Rattle.state.specs.declared.State.{State}
use Rattle.state.specs.State.{state_of}
use Rattle.state.specs.Valid.{Good}
use Rattle.panel.specs.declared.Answer.{Answer}
use Rattle.panel.specs.declared.Begun.{Begun}
use Rattle.panel.specs.Step.{answer_of, settled_of, step_of}
use Rattle.panel.specs.StepWay.{answer_after}
use Rattle.panel.proofs.ValidLaws.{good-step}
use Rattle.panel.proofs.advance.Goals as goal

-- an answer that is the step's leaves a valid state
promised : (s : State) (e : Event) (r : Answer) → Good s → r ≡ step_of s e → Good r.state
promised s e r g is = subst (λ (a : Answer). Good a.state) (sym is) (good-step g e)

-- an event with which switching and display follow
ended : (t : List ℤ) (b : Begun) (l : Live) (a : Answer) → b.settles ≡ true → state_of t l ≡ settled_of (state_of t b.live) → answer_after t b ≡ a →
    answer_of (state_of t l) b.note b.halves ≡ a
ended t b l a on s e = ap (λ (x : State). answer_of x b.note b.halves) s ∙ (rw on at e)

pub returns-then-b : goal.returns-then-b
unfolding answer_of
returns-then-b c = let is = ended _ c.begin-b.result c.settle-last.result _ c.if-b.true c.settle-last.ensures c.begin-b.ensures in
    record {
      is = is;
      valid = promised _ c.args.e _ c.requires is;
    }

pub returns : goal.returns
unfolding answer_of
returns c = let is = rw c.if-b.false at c.begin-b.ensures in
    record {
      is = is;
      valid = promised _ c.args.e _ c.requires is;
    }
