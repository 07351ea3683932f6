-- `slave::Slave::take_bytes` meets its contract: `feed` takes one byte at least.
use Rattle.std.proofs.Common.{◌≡◌, ap, ℕ, ◌+◌, ◌<◌, Bool, true, false, cond, List, length, get_or, drop, arith}
use Rattle.framing.specs.declared.Collector.{Collector}
use Rattle.framing.specs.Collector.{Fed, fed_by, pushed, fed_to}
use Rattle.framing.proofs.PieceLaws.{fed-next, next-on}
use Rattle.slave.proofs.Slave.take_bytes.Goals as goal

past : (node : ℕ) (c : Collector) (l : List ℕ) (i : ℕ) → i < length l → i < (fed_to node c (drop i l) i).next
past node c l i h = rw (fed-next node c l i h) (by d.ended)
  where
    d : Collector
    d = pushed node c (get_or l i 0)

    by : (t : Bool) → i < (cond t (record { collector = d; next = i + 1 }) (fed_to node d (drop (i + 1) l) (i + 1))).next
    by true = omega arith
    by false = omega (arith, next-on node d (drop (i + 1) l) (i + 1))

further : (node : ℕ) (c d : Collector) (l : List ℕ) (i n : ℕ) → fed_by d n ≡ fed_to node c (drop i l) i → i < length l → i < n
further node c d l i n e h = let next = ap Fed.next e in omega (arith, next, past node c l i h)

pub loop-at-smaller-then-self : goal.loop-at-smaller-then-self
loop-at-smaller-then-self c =
    let l = c.loop-at in
    omega (arith, further _ _ _ c.args.bytes.now l.at _ c.feed-at.ensures (omega arith))

pub loop-at-smaller : goal.loop-at-smaller
loop-at-smaller c =
    let l = c.loop-at in
    omega (arith, further _ _ _ c.args.bytes.now l.at _ c.feed-at.ensures (omega arith))
