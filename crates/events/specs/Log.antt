-- A log gives its events in order and then a number: 0 at its end, or the 14, 15 or 16 that ends it.
-- Paper 01, "panelrun and its log", and "Where each check sits", log.
use Rattle.std.specs.Prelude.{Bool, true, false, cond, not, List, [], ◌∷◌, ℕ, eqb, Option, Some, None, Result, Ok, Err}
use Rattle.events.specs.declared.Event.{Event}
use Rattle.events.specs.declared.Event.TheVariants.{Telegram, Levels, Tick}
use Rattle.events.specs.declared.Pending.{Pending}
use Rattle.events.specs.declared.Refusal.{Refusal}
use Rattle.events.specs.declared.Refusal.TheVariants.{Reserved, OutOfOrder, LeftOver, Other}
use Rattle.events.specs.declared.AfterWord.{AfterWord}
use Rattle.events.specs.Words.{kind_of, ms_of, levels_of, half_of, joined, reserved_set}

-- no upper half is waiting: before the first word, and after each word but an upper half
abbrev pub fresh_pending : Pending
fresh_pending = record { waiting = false; upper = 0 }

-- the upper half that waits, if one does
abbrev pub half_waiting : Pending → Option ℕ
half_waiting p = cond p.waiting (Some p.upper) None

-- the numbers of the refusals
abbrev pub refusal_number : Refusal → ℕ
refusal_number Reserved = 14
refusal_number OutOfOrder = 15
refusal_number LeftOver = 16
refusal_number (Other n) = n

-- 0 where there is none
abbrev pub number_told : Option Refusal → ℕ
number_told None = 0
number_told (Some refusal) = refusal_number refusal

-- the refusal of a number: each number has one, 0 none
unfoldable pub refusal_of : ℕ → Option Refusal
refusal_of n =
    cond (eqb n 0) None
    (cond (eqb n 14) (Some Reserved)
    (cond (eqb n 15) (Some OutOfOrder)
    (cond (eqb n 16) (Some LeftOver)
    (Some (Other n)))))

-- what a word gives
abbrev pub Taken : Type 0
Taken = Result (Option Event) Refusal

-- a word gives an event, or is an upper half that is kept, or is refused
abbrev pub happened : Event → AfterWord
happened e = record { pending = fresh_pending; taken = Ok (Some e) }

abbrev pub kept : ℕ → AfterWord
kept upper = record { pending = record { waiting = true; upper = upper }; taken = Ok None }

abbrev pub refused : Refusal → AfterWord
refused refusal = record { pending = fresh_pending; taken = Err refusal }

-- "A lower half comes directly after its upper half and nowhere else; anything else after an upper half .. gives 15":
-- after an upper half each word but a lower half is out of order, elsewhere each lower half
abbrev pub out_of_order : Bool → ℕ → Bool
out_of_order waiting w = cond waiting (not (eqb (kind_of w) 3)) (eqb (kind_of w) 3)

-- a word in order, by kind: 0 tick, 1 levels, 2 upper half; 3, the lower half, makes the telegram with the upper one
unfoldable pub accepted_of : ℕ → ℕ → AfterWord
accepted_of upper w =
    cond (eqb (kind_of w) 0) (happened (Tick (ms_of w)))
    (cond (eqb (kind_of w) 1) (happened (Levels (levels_of w)))
    (cond (eqb (kind_of w) 2) (kept (half_of w)) (happened (Telegram (joined upper (half_of w))))))

-- a word with no reserved bit set
abbrev pub ordered_of : Pending → ℕ → AfterWord
ordered_of p w = cond (out_of_order p.waiting w) (refused OutOfOrder) (accepted_of p.upper w)

-- one word: "14 is tested before 15"
unfoldable pub taken_of : Pending → ℕ → AfterWord
taken_of p w = cond (reserved_set w) (refused Reserved) (ordered_of p w)

-- the log's end: "left-over bytes give 16 only, even after an upper half"; an upper half left waiting gives 15.
-- A whole log leaves 0 to 3 bytes over; any number of them but 0 gives 16
unfoldable pub end_of : Pending → ℕ → Result Unit Refusal
end_of p left = cond (eqb left 0) (cond p.waiting (Err OutOfOrder) (Ok tt)) (Err LeftOver)

-- its number: 0 where it is not refused
abbrev pub end_number : Result Unit Refusal → ℕ
end_number (Ok x) = 0
end_number (Err refusal) = refusal_number refusal

-- what a log gives: its events, and the number that `end` carries
pub record Log : Type 0 where
  pub events : List Event
  pub refusal : ℕ

-- what a word makes of what the rest of the log gives: "A log refusal ends the run"
abbrev pub before : Taken → Log → Log
before (Ok (Some e)) rest = record { events = e ∷ rest.events; refusal = rest.refusal }
before (Ok None) rest = rest
before (Err refusal) rest = record { events = []; refusal = refusal_number refusal }

-- the words of a log from some place on, and the number of bytes left over behind them
unfoldable pub log_from : Pending → List ℕ → ℕ → Log
log_from p [] left = record { events = []; refusal = end_number (end_of p left) }
log_from p (w ∷ ws) left = before (taken_of p w).taken (log_from (taken_of p w).pending ws left)

-- THE MEANING of a log: its whole words, and the number of bytes left over
unfoldable pub log_of : List ℕ → ℕ → Log
log_of ws left = log_from fresh_pending ws left
