-- `parameters::changed` meets its contract: a store behind the last slot is none.
use borrow.Author.Rules.{rules}
use mathlib.Core.Path.{◌≡◌, sym}
use native.Mathlib.Omega.{arith}
use lib.ListN.{length}
use lib.Seq.{set_out}
use Rattle.parameters.proofs.changed.Goals as goal

pub returns-else-slot-lt104 : goal.returns-else-slot-lt104
returns-else-slot-lt104 c = let long : length c.args.t ≡ 104 = search rules in
    sym (set_out c.args.t _ _ (omega arith))
