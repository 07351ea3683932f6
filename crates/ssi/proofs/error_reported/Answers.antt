-- `ssi::error_reported` meets its contract: with no error bit the answer is no, else the levels are compared.
use Rattle.ssi.specs.Sound.{error_bit}
use Rattle.ssi.specs.Telegram.{error_reported}
use Rattle.ssi.proofs.Arms.{set-up}
use Rattle.ssi.proofs.error_reported.Goals as goal

pub returns-then-l-ne0 : goal.returns-then-l-ne0
unfolding error_reported
returns-then-l-ne0 c = rw c.level.ensures (set-up (error_bit c.args.l) _ c.if-l-ne0.true)

pub returns-else-l-ne0 : goal.returns-else-l-ne0
unfolding error_reported
returns-else-l-ne0 c = rw c.if-l-ne0.false
