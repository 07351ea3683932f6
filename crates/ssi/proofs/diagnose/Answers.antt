-- `ssi::diagnose` meets its contract: the test of acceptance decides, a shift gives the turns, and a mask keeps the place.
use mathlib.Core.Path.{sym, ap, ◌∙◌}
use lib.Bits.{bit_and, and_mask}
use Rattle.ssi.specs.Telegram.{diagnosis_of}
use Rattle.ssi.proofs.diagnose.Goals as goal

pub returns-then-accepts : goal.returns-then-accepts
unfolding diagnosis_of
returns-then-accepts c = let p = c.position-p.result in
    let bits = c.args.bits_per_turn in
    rw (ap (bit_and p) c.mask.ensures ∙ and_mask p bits, c.position-p.ensures, sym c.accepts.ensures ∙ c.if-accepts.true)

pub returns : goal.returns
unfolding diagnosis_of
returns c = rw (sym c.accepts.ensures ∙ c.if-accepts.false)
