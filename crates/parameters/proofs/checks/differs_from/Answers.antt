-- The four preselections are those below 4.
use Rattle.std.proofs.Common.{◌∙◌, refl, rules, tests}
use Rattle.std.proofs.lemmas.Iterator.{YieldsList-from_range}
use Rattle.std.proofs.lemmas.Iterator.Search.{any_from_yields_List}
use Rattle.parameters.proofs.RangeSearch.{any-below}
use Rattle.parameters.specs.Load.{differ, differs_from}
use Rattle.parameters.proofs.checks.differs_from.Goals as goal

pub returns : goal.returns
unfolding differs_from
returns c =
    let tested = differ c.args.t.now c.args.j in
    any_from_yields_List tested _ _ _ c.any.ensures.ran (YieldsList-from_range 0 4 4 refl refl) (λ x b q k. search (rules, tests)) ∙ any-below tested 4
