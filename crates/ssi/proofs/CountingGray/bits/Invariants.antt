-- `ssi::Counting::bits` meets its contract. The invariant: p is the position without its k low bits.
use Prim.Native.Nat.{◌/◌, ◌^◌}
use mathlib.Core.Path.{◌≡◌}
use Rattle.ssi.specs.Telegram.{gray_decoded}
use Rattle.ssi.proofs.CountingGray.bits.Given as goal

abbrev pub invariant-loop-k : goal.invariant-loop-k
invariant-loop-k l = l.p ≡ gray_decoded l.n l.n l.t / 2 ^ l.k
