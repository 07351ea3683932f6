-- `recorder::put_words` meets its contract. The invariant: the bytes of the words before, and behind them what was there.
use mathlib.Core.Path.{◌≡◌}
use mathlib.Core.List.{◌++◌}
use Prim.Native.Nat.{◌*◌}
use lib.ListN.{length, take, drop}
use Rattle.events.specs.Bytes.{bytes_of}
use Rattle.recorder.proofs.put_words.Given as goal

abbrev pub invariant-loop-k : goal.invariant-loop-k
invariant-loop-k l = (length l.bytes ≡ length l.initial.bytes) × (l.bytes ≡ bytes_of (take l.k l.words) ++ drop (4 * l.k) l.initial.bytes)
