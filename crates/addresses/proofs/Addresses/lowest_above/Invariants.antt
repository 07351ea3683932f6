-- `addresses::lowest_above` meets its contract. The invariant: the lowest from `at` on, in word i, is the lowest above where the search began.
use Rattle.std.proofs.Common.{◌≡◌, ◌-◌, ◌/◌, ◌≤◌}
use Rattle.addresses.specs.Addresses.{holds}
use Rattle.addresses.specs.Search.{lowest_from, lowest_above}
use Rattle.addresses.proofs.Addresses.lowest_above.Given as goal

abbrev pub invariant-loop-i : goal.invariant-loop-i
invariant-loop-i l = record {
  within : l.at ≤ 256;
  word : l.at / 64 ≡ l.i;
  same : lowest_above (holds l.self) l.above ≡ lowest_from (holds l.self) l.at (256 - l.at);
}
