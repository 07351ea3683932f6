-- `events::take` meets its contract: the reserved bits are tested first.
use mathlib.Core.Path.{sym, ◌∙◌}
use Rattle.events.specs.Log.{taken_of}
use Rattle.events.proofs.HalfLaws.{half-some, half-none, ordered-fresh}
use Rattle.events.proofs.take.Goals as goal

pub returns-then-reserved_set : goal.returns-then-reserved_set
unfolding taken_of
returns-then-reserved_set c = rw (c.refuse.ensures, sym c.reserved_set.ensures ∙ c.if-reserved_set.true)

pub returns-in-Some : goal.returns-in-Some
unfolding taken_of
returns-in-Some c = rw (c.after_upper.ensures, sym c.reserved_set.ensures ∙ c.if-reserved_set.false, half-some c.args.p _ c.in-Some.ensures)

pub returns-in-None : goal.returns-in-None
unfolding taken_of
returns-in-None c = rw (
  c.elsewhere.ensures,
  sym c.reserved_set.ensures ∙ c.if-reserved_set.false,
  ordered-fresh c.args.p c.args.w (half-none c.args.p c.in-None.ensures),
)
