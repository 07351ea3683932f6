-- What a log gives, it can carry: in every log, refused ones too, levels are at most 7, ms at most 65,535, telegrams of 32 bits.
use Rattle.std.specs.Prelude.{Bool, true, false, cond, List, [], ◌∷◌, ℕ, ◌^◌, ◌<◌, eqb, Some, None, Ok, Err}
use Rattle.std.proofs.Common.{arith}
use Rattle.events.specs.declared.Event.TheVariants.{Telegram, Levels, Tick}
use Rattle.events.specs.declared.Pending.{Pending}
use Rattle.events.specs.declared.Refusal.TheVariants.{Reserved, OutOfOrder}
use Rattle.events.specs.declared.AfterWord.{AfterWord}
use Rattle.events.specs.Words.{kind_of, ms_of, levels_of, half_of, joined, reserved_set}
use Rattle.events.specs.Log.{fresh_pending, happened, kept, refused, out_of_order, Taken, accepted_of, taken_of, before, log_from, log_of}
use Rattle.events.specs.Written.{Carried, AllCarried}

abbrev CarriedTaken : Taken → Type 0
CarriedTaken (Ok (Some e)) = Carried e
CarriedTaken (Ok None) = Unit
CarriedTaken (Err n) = Unit

abbrev CarriedStep : AfterWord → Type 0
CarriedStep s = (s.pending.upper < 2 ^ 16) × CarriedTaken s.taken

module _ (upper w : ℕ) (small : upper < 2 ^ 16) where
  carried-by : (r o k0 k1 k2 : Bool)
      → CarriedStep
      (cond r (refused Reserved)
      (cond o (refused OutOfOrder)
      (cond k0 (happened (Tick (ms_of w)))
      (cond k1 (happened (Levels (levels_of w))) (cond k2 (kept (half_of w)) (happened (Telegram (joined upper (half_of w)))))))))
  carried-by true o k0 k1 k2 = (omega arith, tt)
  carried-by false true k0 k1 k2 = (omega arith, tt)
  carried-by false false true k1 k2 = (omega arith, omega arith)
  carried-by false false false true k2 = (omega arith, omega arith)
  carried-by false false false false true = (omega arith, tt)
  carried-by false false false false false = (omega arith, omega arith)

word-carried : (p : Pending) (w : ℕ) → p.upper < 2 ^ 16 → CarriedStep (taken_of p w)
unfolding taken_of accepted_of
word-carried p w h = carried-by p.upper w h (reserved_set w) (out_of_order p.waiting w) (eqb (kind_of w) 0) (eqb (kind_of w) 1) (eqb (kind_of w) 2)

before-carried : (ws : List ℕ) (left : ℕ) (s : AfterWord) → CarriedTaken s.taken → AllCarried (log_from s.pending ws left).events
    → AllCarried (before s.taken (log_from s.pending ws left)).events
before-carried ws left s h rest = by s.taken h
  where
    by : (t : Taken) → CarriedTaken t → AllCarried (before t (log_from s.pending ws left)).events
    by (Ok (Some e)) k = (k, rest)
    by (Ok None) k = rest
    by (Err n) k = tt

pub carried_from : (p : Pending) (ws : List ℕ) (left : ℕ) → p.upper < 2 ^ 16 → AllCarried (log_from p ws left).events
unfolding log_from
carried_from p [] left h = tt
carried_from p (w ∷ ws) left h =
    let c = word-carried p w h in
    before-carried ws left (taken_of p w) c.1 (carried_from (taken_of p w).pending ws left c.0)

pub log-carried : (ws : List ℕ) (left : ℕ) → AllCarried (log_of ws left).events
unfolding log_of
log-carried ws left = carried_from fresh_pending ws left (omega arith)
