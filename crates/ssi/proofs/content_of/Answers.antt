-- `ssi::content_of` meets its contract: the test of acceptance decides, and the callees give the position and the error.
use mathlib.Core.Path.{sym, ◌∙◌}
use Rattle.ssi.specs.Telegram.{content_of}
use Rattle.ssi.proofs.content_of.Goals as goal

pub returns-then-accepts : goal.returns-then-accepts
unfolding content_of
returns-then-accepts c = rw (c.error_reported.ensures, c.position.ensures, sym c.accepts.ensures ∙ c.if-accepts.true)

pub returns : goal.returns
unfolding content_of
returns c = rw (sym c.accepts.ensures ∙ c.if-accepts.false)
