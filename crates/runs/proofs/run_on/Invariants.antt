-- `runs::run_on` meets its contract. The loop's invariant: the rest of the list, run from the last answer, ends as the whole list does, and the state is valid.
use mathlib.Core.Path.{◌≡◌}
use lib.ListN.{drop}
use Rattle.state.specs.Valid.{Good}
use Rattle.runs.specs.Run.{last_of, answers_of}
use Rattle.runs.specs.Words.{events_in}
use Rattle.runs.proofs.run_on.Given as goal

abbrev pub invariant-loop-w : goal.invariant-loop-w
invariant-loop-w l =
    Good l.last.state × (last_of l.initial.last (answers_of l.initial.last.state (events_in l.log)) ≡ last_of l.last (answers_of l.last.state (events_in (drop l.w-index l.log))))
