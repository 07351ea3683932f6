-- `runs::run` meets its contract: a refused table answers its refusal, and a loaded one its run, of which demand 3 is proved.
use mathlib.Core.Path.{◌≡◌, sym, ap, ◌∙◌}
use Rattle.panel.specs.declared.Loaded.{Loaded}
use Rattle.std.proofs.Common.{None}
use Rattle.parameters.proofs.LoadLaws.{none-of, not-none}
use Rattle.panel.specs.Load.{loaded_of}
use Rattle.panel.specs.Step.{answer_of}
use Rattle.runs.specs.Words.{events_in}
use Rattle.runs.proofs.RanLaws.{refused-run, refused-promise, loaded-last, loaded-run, loaded-promise}
use Rattle.runs.proofs.run.Goals as goal

pub returns-then-is_some : goal.returns-then-is_some
returns-then-is_some c = let l = c.load-l in
    let a = c.answered-first in
    let s = c.args in
    let n : (loaded_of s.table.now).refusal ≡ None → ⊥ = λ z. not-none _ (sym c.is_some.ensures ∙ c.if-is_some.true) (ap (λ (x : Loaded). x.refusal) l.ensures.is ∙ z) in
    rw (a.ensures, c.no_halves.ensures, l.ensures.is) (record { is = refused-run s.table.now (events_in s.log.now) n; demand3 = refused-promise s.table.now (events_in s.log.now) _ n })

pub run_on-last-requires : goal.run_on-last-requires
unfolding answer_of
run_on-last-requires c = rw c.answered-first.ensures c.load-l.ensures.valid

pub returns : goal.returns
unfolding answer_of
returns c = let b = c in
    let l = b.load-l in
    let s = b.args in
    let z : (loaded_of s.table.now).refusal ≡ None = ap (λ (x : Loaded). x.refusal) (sym l.ensures.is) ∙ none-of _ (sym c.is_some.ensures ∙ c.if-is_some.false) in
    let e = rw (b.answered-first.ensures, b.no_halves.ensures, l.ensures.is) at c.run_on-last.ensures.is in
    let last = e ∙ loaded-last s.table.now (events_in s.log.now) z in
    record {
      is = loaded-run s.table.now (events_in s.log.now) _ z last;
      demand3 = loaded-promise s.table.now (events_in s.log.now) _ last;
    }
