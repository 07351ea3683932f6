-- Both ways of a run give what it promises: a refused table promises nothing, and of a loaded one demand 3 is proved.
use Rattle.std.specs.Prelude.{◌≡◌, None, List, ℤ}
use Rattle.std.proofs.Common.{sym, ap, ◌∙◌, eq-eqb, ne_eqb}
use Rattle.state.specs.State.{fresh_of}
use Rattle.events.specs.declared.Event.{Event}
use Rattle.panel.specs.declared.Answer.{Answer}
use Rattle.state.specs.declared.State.{State}
use Rattle.panel.specs.Load.{loaded_of}
use Rattle.parameters.specs.Load.{load_refusal}
use Rattle.parameters.proofs.LoadLaws.{answer-none, none-answered, answer-table}
use Rattle.runs.specs.declared.Ran.{Ran}
use Rattle.runs.proofs.Demand3Laws.{demand3}
use Rattle.runs.specs.Ran.{ran, ran_of, Promised}
use Rattle.panel.specs.Step.{unasked}
use Rattle.runs.specs.Run.{answers_of, last_of, last_answer}

-- a load has no refusal where the table's number is 0, and only there
none_is : (t : List ℤ) → load_refusal t ≡ 0 → (loaded_of t).refusal ≡ None
unfolding loaded_of
none_is t z = answer-none t z

number_is : (t : List ℤ) → (loaded_of t).refusal ≡ None → load_refusal t ≡ 0
unfolding loaded_of
number_is t e = none-answered t e

pub refused-run : (t : List ℤ) (es : List Event) → ((loaded_of t).refusal ≡ None → ⊥) → ran (loaded_of t).refusal (unasked (loaded_of t).state) ≡ ran_of t es
unfolding ran_of
refused-run t es n = rw (ne_eqb (load_refusal t) 0 (λ z. n (none_is t z)))

pub refused-promise : (t : List ℤ) (es : List Event) (r : Ran) → ((loaded_of t).refusal ≡ None → ⊥) → Promised t es r
refused-promise t es r n = record { last = λ z. absurd (n (none_is t z)); claim = λ z. absurd (n (none_is t z)) }

-- the run of a loaded table starts from its fresh state
from-load : (s : State) → List Event → Answer
from-load s es = last_of (unasked s) (answers_of s es)

pub loaded-last : (t : List ℤ) (es : List Event) → (loaded_of t).refusal ≡ None → last_of (unasked (loaded_of t).state) (answers_of (loaded_of t).state es) ≡ last_answer t es
unfolding loaded_of from-load
loaded-last t es z = ap (λ (u : List ℤ). from-load (fresh_of u) es) (answer-table t (number_is t z))

pub loaded-run : (t : List ℤ) (es : List Event) (a : Answer) → (loaded_of t).refusal ≡ None → a ≡ last_answer t es → ran None a ≡ ran_of t es
unfolding ran_of
loaded-run t es a z e = rw (eq-eqb (load_refusal t) 0 (number_is t z)) (ap (ran None) e)

pub loaded-promise : (t : List ℤ) (es : List Event) (a : Answer) → a ≡ last_answer t es → Promised t es (ran None a)
loaded-promise t es a e = record { last = λ z. e; claim = λ z. demand3 t z es }
