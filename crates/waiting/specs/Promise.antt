-- Paper 02, K12, THE PROMISE, stated: "With n panels registered and nobody joining, one that waits is polled within 2n picks if it stays in its group,
-- however the others report". This file is definitions only; `promise` and `quiet-promise` of PromiseLaws prove it, `tight` of Cases shows that 2n is needed.
use Rattle.std.specs.Prelude.{◌≡◌, Bool, true, false, not, ◌&&◌, ◌||◌, List, [], ◌∷◌, ℕ, Option, None, Some, ◌+◌, ◌*◌, ◌≤◌, T, eqb, length, get_or}
use Rattle.std.specs.Bool.{beq}
use Rattle.dispatcher.specs.declared.Dispatcher.{Dispatcher}
use Rattle.dispatcher.specs.Dispatch.{fresh_of, present, registered, in_error, panels}
use Rattle.waiting.specs.Steps.{Step, picks, reports, registers, after, ran, choices}

-- "nobody joining" and "it stays in its group": after each step the same panels are registered, and the one at a is in error or not as before
unfoldable pub Steady : ℕ → Dispatcher → List Step → Type 0
Steady a d [] = Unit {0}
Steady a d (s ∷ ss) = ((x : ℕ) → present (after d s) x ≡ present d x) × (in_error (after d s) a ≡ in_error d a) × Steady a (after d s) ss

-- "polled within m picks": pick k + 1 chooses the panel at a, and is one of the first m
abbrev pub PolledWithin : ℕ → ℕ → List (Option ℕ) → Type 0
PolledWithin m a cs = (k : ℕ) × (k + 1 ≤ m) × (get_or cs k None ≡ Some a)

-- THE PROMISE, of every dispatcher and every list of steps with 2n picks
abbrev pub Promise : Type 0
Promise =
    (d : Dispatcher) (a : ℕ) (ss : List Step) → T (registered d a) → Steady a d ss →
    2 * panels d ≤ length (choices d ss) → PolledWithin (2 * panels d) a (choices d ss)

-- a test of the list alone: nobody asks to join, and each report of the panel at a is of its group g
unfoldable pub quiet : ℕ → Bool → List Step → Bool
quiet a g [] = true
quiet a g (picks ∷ ss) = quiet a g ss
quiet a g (reports b e ∷ ss) = (not (eqb b a) || beq e g) && quiet a g ss
quiet a g (registers b ∷ ss) = false

-- the same of such a list, whatever happened before it
abbrev pub QuietPromise : Type 0
QuietPromise =
    (before : List Step) (a : ℕ) (ss : List Step) →
    T (registered (ran fresh_of before) a) → T (quiet a (in_error (ran fresh_of before) a) ss) →
    2 * panels (ran fresh_of before) ≤ length (choices (ran fresh_of before) ss) →
    PolledWithin (2 * panels (ran fresh_of before)) a (choices (ran fresh_of before) ss)
