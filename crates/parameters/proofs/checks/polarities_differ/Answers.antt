-- The four preselections are those below 4.
use Rattle.std.proofs.Common.{◌∙◌, refl, rules, tests}
use Rattle.std.proofs.lemmas.Iterator.{YieldsList-from_range}
use Rattle.std.proofs.lemmas.Iterator.Search.{any_from_yields_List}
use Rattle.parameters.proofs.RangeSearch.{any-below}
use Rattle.parameters.specs.Load.{differs_from, polarities_differ}
use Rattle.parameters.proofs.checks.polarities_differ.Goals as goal

pub returns : goal.returns
unfolding polarities_differ
returns c =
    let tested = differs_from c.args.t.now in
    any_from_yields_List tested _ _ _ c.any.ensures.ran (YieldsList-from_range 0 4 4 refl refl) (λ x b q k. search (rules, tests)) ∙ any-below tested 4
