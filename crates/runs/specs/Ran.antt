-- What a run answers, and what it promises of the very list it was given: demand 3.
-- Paper 01, "Runs".
use Rattle.std.specs.Prelude.{◌≡◌, cond, Option, None, List, eqb, ℤ}
use Rattle.events.specs.declared.Event.{Event}
use Rattle.panel.specs.declared.Answer.{Answer}
use Rattle.panel.specs.Load.{loaded_of}
use Rattle.parameters.specs.declared.Refusal.{Refusal}
use Rattle.parameters.specs.Load.{load_refusal}
use Rattle.runs.specs.declared.Ran.{Ran}
use Rattle.panel.specs.Step.{unasked}
use Rattle.runs.specs.Run.{last_answer}
use Rattle.runs.specs.Demand3.{Demand3}

abbrev pub ran : Option Refusal → Answer → Ran
ran r a = record { refusal = r; answer = a }

-- a refused table answers its refusal, with the defaults' fresh state as filler
unfoldable pub ran_of : List ℤ → List Event → Ran
ran_of t es =
    cond (eqb (load_refusal t) 0) (ran None (last_answer t es)) (ran (loaded_of t).refusal (unasked (loaded_of t).state))

-- of a table that loads, the answer is the one last given in the run, and demand 3 holds of the list
pub record Promised (t : List ℤ) (es : List Event) (r : Ran) : Type 0 where
  pub last : load_refusal t ≡ 0 → r.answer ≡ last_answer t es
  pub claim : load_refusal t ≡ 0 → Demand3 t es
