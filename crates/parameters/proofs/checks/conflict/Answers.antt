-- Each check answers its condition. Past a check that found nothing, the refusal is that of the checks left; the first that finds something gives it.
use Rattle.parameters.specs.Search.{first_of}
use Rattle.parameters.specs.Load.{conflicts}
use Rattle.parameters.proofs.checks.conflict.Goals as goal

pub returns-then-field_wrong : goal.returns-then-field_wrong
unfolding first_of conflicts
returns-then-field_wrong c = rw (← c.field_wrong.ensures, c.if-field_wrong.true)

pub returns-then-error_bit_wrong : goal.returns-then-error_bit_wrong
unfolding first_of conflicts
returns-then-error_bit_wrong c = rw (← c.field_wrong.ensures, c.if-field_wrong.false, ← c.error_bit_wrong.ensures, c.if-error_bit_wrong.true)

pub returns-then-span_empty : goal.returns-then-span_empty
unfolding first_of conflicts
returns-then-span_empty c = rw (← c.field_wrong.ensures, c.if-field_wrong.false, ← c.error_bit_wrong.ensures, c.if-error_bit_wrong.false, ← c.span_empty.ensures, c.if-span_empty.true)

pub returns-then-points_not_rising : goal.returns-then-points_not_rising
unfolding first_of conflicts
returns-then-points_not_rising c = rw (← c.field_wrong.ensures, c.if-field_wrong.false, ← c.error_bit_wrong.ensures, c.if-error_bit_wrong.false, ← c.span_empty.ensures, c.if-span_empty.false, ← c.points_not_rising.ensures, c.if-points_not_rising.true)

pub returns-then-origin_missing : goal.returns-then-origin_missing
unfolding first_of conflicts
returns-then-origin_missing c = rw (← c.field_wrong.ensures, c.if-field_wrong.false, ← c.error_bit_wrong.ensures, c.if-error_bit_wrong.false, ← c.span_empty.ensures, c.if-span_empty.false, ← c.points_not_rising.ensures, c.if-points_not_rising.false, ← c.origin_missing.ensures, c.if-origin_missing.true)

pub returns-then-freeze_on_edge : goal.returns-then-freeze_on_edge
unfolding first_of conflicts
returns-then-freeze_on_edge c = rw (← c.field_wrong.ensures, c.if-field_wrong.false, ← c.error_bit_wrong.ensures, c.if-error_bit_wrong.false, ← c.span_empty.ensures, c.if-span_empty.false, ← c.points_not_rising.ensures, c.if-points_not_rising.false, ← c.origin_missing.ensures, c.if-origin_missing.false, ← c.freeze_on_edge.ensures, c.if-freeze_on_edge.true)

pub returns-then-polarities_differ : goal.returns-then-polarities_differ
unfolding first_of conflicts
returns-then-polarities_differ c = rw (← c.field_wrong.ensures, c.if-field_wrong.false, ← c.error_bit_wrong.ensures, c.if-error_bit_wrong.false, ← c.span_empty.ensures, c.if-span_empty.false, ← c.points_not_rising.ensures, c.if-points_not_rising.false, ← c.origin_missing.ensures, c.if-origin_missing.false, ← c.freeze_on_edge.ensures, c.if-freeze_on_edge.false, ← c.polarities_differ.ensures, c.if-polarities_differ.true)

pub returns : goal.returns
unfolding first_of conflicts
returns c = rw (← c.field_wrong.ensures, c.if-field_wrong.false, ← c.error_bit_wrong.ensures, c.if-error_bit_wrong.false, ← c.span_empty.ensures, c.if-span_empty.false, ← c.points_not_rising.ensures, c.if-points_not_rising.false, ← c.origin_missing.ensures, c.if-origin_missing.false, ← c.freeze_on_edge.ensures, c.if-freeze_on_edge.false, ← c.polarities_differ.ensures, c.if-polarities_differ.false)
