-- `framing::Collector::feed` meets its contract. The invariant: from here on the rest gives what the whole gives, and the place is not past the end.
use Rattle.std.proofs.Common.{◌≡◌, ◌≤◌, max, length, drop}
use Rattle.framing.specs.Collector.{fed_to}
use Rattle.framing.proofs.Collector.feed.Given as goal

abbrev pub invariant-loop-i : goal.invariant-loop-i
invariant-loop-i l = record {
  rest : fed_to l.node l.initial.self (drop l.at l.bytes) l.at ≡ fed_to l.node l.self (drop l.i l.bytes) l.i;
  within : l.i ≤ max l.at (length l.bytes);
}
