-- What happens to a dispatcher, in any order, and what its picks choose. Paper 02, K12.
use Rattle.std.specs.Prelude.{Bool, true, false, List, [], ◌∷◌, ℕ, Option}
use Rattle.dispatcher.specs.declared.Dispatcher.{Dispatcher}
use Rattle.dispatcher.specs.Dispatch.{register_of, report_of, pick_of}

-- a pick, a report of an error (true) or of none, a panel that asks to join
pub data Step : Type 0 where
  picks : Step
  reports : ℕ → Bool → Step
  registers : ℕ → Step

-- the dispatcher after a step; a refused one leaves it as it is
unfoldable pub after : Dispatcher → Step → Dispatcher
after d picks = (pick_of d).0
after d (reports a e) = (report_of d a e).0
after d (registers a) = (register_of d a).0

-- after a list of steps
unfoldable pub ran : Dispatcher → List Step → Dispatcher
ran d [] = d
ran d (s ∷ ss) = ran (after d s) ss

-- what the picks of a list of steps choose, in their order: a panel, or none
unfoldable pub choices : Dispatcher → List Step → List (Option ℕ)
choices d [] = []
choices d (picks ∷ ss) = (pick_of d).1 ∷ choices (after d picks) ss
choices d (reports a e ∷ ss) = choices (after d (reports a e)) ss
choices d (registers a ∷ ss) = choices (after d (registers a)) ss

-- no pick is among the steps
unfoldable pub no_pick : List Step → Bool
no_pick [] = true
no_pick (picks ∷ ss) = false
no_pick (reports a e ∷ ss) = no_pick ss
no_pick (registers a ∷ ss) = no_pick ss
