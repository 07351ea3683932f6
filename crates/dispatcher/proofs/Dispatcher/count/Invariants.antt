-- `dispatcher::count` meets its contract. The invariant: those counted and those from a on are all.
use Rattle.std.proofs.Common.{◌≡◌, ◌+◌, ◌-◌, ◌≤◌}
use Rattle.addresses.specs.Search.{count_from}
use Rattle.dispatcher.specs.Dispatch.{present, panels}
use Rattle.dispatcher.proofs.Dispatcher.count.Given as goal

abbrev pub invariant-loop-a : goal.invariant-loop-a
invariant-loop-a l = record {
  few : l.n ≤ l.a;
  all : panels l.self ≡ l.n + count_from (present l.self) l.a (256 - l.a);
}
