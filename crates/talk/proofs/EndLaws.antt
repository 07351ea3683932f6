-- What was heard of an input: nothing at first, and then one piece more.
use Rattle.std.specs.Prelude.{◌≡◌, ℕ, List, [], ◌++◌}
use Rattle.std.proofs.Common.{ap, sym, ◌∙◌}
use Rattle.std.proofs.KnownBytes.{Consumes-nil, Consumes-trans}
use Rattle.std.specs.declared.option.Option.{Option}
use Rattle.script.specs.declared.collector.Collector.{Collector}
use Rattle.script.specs.Talk.{talked_all}
use Rattle.script.proofs.TalkLaws.{talked-pieces}
use Rattle.talk.specs.Ends.{Heard}

module _ {S : Type 0} (after : S → List ℕ → S) where
  pub heard-nothing : (a : Option (List ℕ)) (t u : S × Collector) → u ≡ t → Heard after a a t u
  unfolding talked_all
  heard-nothing a t u e = ([], Consumes-nil a, e)

  pub heard-more : (a b c : Option (List ℕ)) (t u v : S × Collector) → Heard after a b t u → Heard after b c u v → Heard after a c t v
  heard-more a b c t u v h k = (h.0 ++ k.0, Consumes-trans a b c h.0 k.0 h.1 k.1, k.2 ∙ ap (λ w. talked_all after w k.0) h.2 ∙ sym (talked-pieces after t h.0 k.0))
