-- The three inputs are those below 3.
use Rattle.std.proofs.Common.{◌∙◌, refl, rules, tests}
use Rattle.std.proofs.lemmas.Iterator.{YieldsList-from_range}
use Rattle.std.proofs.lemmas.Iterator.Search.{any_from_yields_List}
use Rattle.parameters.proofs.RangeSearch.{any-below}
use Rattle.parameters.specs.Load.{frozen_by_edge, freeze_on_edge}
use Rattle.parameters.proofs.checks.freeze_on_edge.Goals as goal

pub returns : goal.returns
unfolding freeze_on_edge
returns c =
    let tested = frozen_by_edge c.args.t.now in
    any_from_yields_List tested _ _ _ c.any.ensures.ran (YieldsList-from_range 0 3 3 refl refl) (λ x b q k. search (rules, tests)) ∙ any-below tested 3
