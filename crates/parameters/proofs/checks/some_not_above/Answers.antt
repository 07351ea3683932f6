-- Each point is tested by `not_above`.
use Rattle.std.proofs.Common.{◌∙◌, refl, rules, tests}
use Rattle.std.proofs.lemmas.Iterator.{YieldsList-from_range}
use Rattle.std.proofs.lemmas.Iterator.Search.{any_from_yields_List}
use Rattle.parameters.proofs.RangeSearch.{any-below}
use Rattle.parameters.specs.Load.{not_above}
use Rattle.parameters.proofs.checks.some_not_above.Goals as goal

pub returns : goal.returns
returns c =
    let tested = not_above c.args.t.now in
    any_from_yields_List tested _ _ _ c.any.ensures.ran (YieldsList-from_range 0 23 23 refl refl) (λ x b q k. search (rules, tests)) ∙ any-below tested 23
