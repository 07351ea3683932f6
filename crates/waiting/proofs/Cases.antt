-- Worked cases of K12, from the fresh dispatcher: the turns of the groups, a panel that changes its group, and a run in which a panel waits for all 2n picks.
use Rattle.std.specs.Prelude.{◌≡◌, refl, true, false, List, [], ◌∷◌, ℕ, Option, None, Some}
use Rattle.addresses.specs.Addresses.{holds, including, excluding}
use Rattle.addresses.specs.Search.{lowest_from, count_from}
use Rattle.integers.specs.Worked.{Worked, case, AllWorked}
use Rattle.dispatcher.specs.Dispatch.{fresh_of, next_of, error_turn, number_of, register_of, report_of, pick_of}
use Rattle.waiting.specs.Steps.{picks, reports, registers, after, choices}
use Rattle.waiting.specs.Promise.{quiet}

-- a pick with no panel registered answers none
abbrev pub nobody : Worked (List (Option ℕ))
nobody = case (choices fresh_of (picks ∷ picks ∷ [])) (None ∷ None ∷ [])

-- 5 and 200 are in error, 3 and 4 are not: by turns, each group after the one that it polled last
abbrev pub turns : Worked (List (Option ℕ))
turns =
    case
    (choices fresh_of (registers 200 ∷ registers 3 ∷ registers 4 ∷ registers 5 ∷ reports 5 true ∷ reports 200 true ∷ picks ∷ picks ∷ picks ∷ picks ∷ picks ∷ picks ∷ []))
    (Some 5 ∷ Some 3 ∷ Some 200 ∷ Some 4 ∷ Some 5 ∷ Some 3 ∷ [])

-- 4 is polled in error and reports none: those in error go on behind 4, by its address
abbrev pub changed : Worked (List (Option ℕ))
changed =
    case
    (choices fresh_of (registers 3 ∷ registers 4 ∷ registers 5 ∷ reports 3 true ∷ reports 4 true ∷ reports 5 true ∷ picks ∷ picks ∷ reports 4 false ∷ picks ∷ picks ∷ picks ∷ []))
    (Some 3 ∷ Some 4 ∷ Some 4 ∷ Some 5 ∷ Some 4 ∷ [])

-- 2n IS NEEDED. n = 2: between two polls of panel 1, which stays ordinary, panel 2 is polled three times, so 1 waits for the fourth pick after its own
abbrev pub tight : Worked (List (Option ℕ))
tight =
    case
    (choices fresh_of (registers 1 ∷ registers 2 ∷ picks ∷ reports 2 true ∷ picks ∷ reports 2 false ∷ picks ∷ reports 2 true ∷ picks ∷ picks ∷ []))
    (Some 1 ∷ Some 2 ∷ Some 2 ∷ Some 2 ∷ Some 1 ∷ [])

-- the premise of the quiet promise is met by the list behind the first of these picks: panel 1 stays ordinary, and nobody asks to join
pub met : quiet 1 false (reports 2 true ∷ picks ∷ reports 2 false ∷ picks ∷ reports 2 true ∷ picks ∷ picks ∷ []) ≡ true
unfolding quiet
met = refl

pub checked : AllWorked (nobody ∷ turns ∷ changed ∷ tight ∷ [])
unfolding choices after register_of report_of pick_of error_turn next_of lowest_from count_from holds including excluding
checked = refl

-- 32 outside 1 to 247 and for a report of a stranger, 29 where the address is present
abbrev pub numbers : List (Worked ℕ)
numbers =
    case (number_of (register_of fresh_of 0).1) 32
    ∷ case (number_of (register_of fresh_of 248).1) 32
    ∷ case (number_of (register_of fresh_of 247).1) 0
    ∷ case (number_of (report_of fresh_of 7 true).1) 32
    ∷ case (number_of (register_of (after fresh_of (registers 247)) 247).1) 29
    ∷ []

pub numbered : AllWorked numbers
unfolding after register_of report_of count_from holds including
numbered = refl
