-- `runs::run_on` meets its contract. The loop's invariant: the rest of the list, run from the last answer, ends as the whole list does, and the state is valid.
use mathlib.Core.Path.{refl, sym, ◌∙◌}
use native.Mathlib.Omega.{arith}
use Rattle.runs.proofs.WordLaws.{words_more, words-end}
use Rattle.runs.proofs.run_on.Goals as goal

pub loop-w-init : goal.loop-w-init
loop-w-init c = (c.requires, refl)

pub step-last-requires : goal.step-last-requires
step-last-requires c = c.loop-w.invariant.0

pub loop-w-preserved : goal.loop-w-preserved
loop-w-preserved c = let l = c.loop-w in
    let log = c.args.log.now in (
      c.step-last.ensures.valid,
      l.invariant.1 ∙ words_more l.last log l.w-index (omega arith) ∙ rw (c.step-last.ensures.is, c.event_of.ensures),
    )

pub returns : goal.returns
returns c = let l = c.loop-w in
    let log = c.args.log.now in
    record {
      is = sym (l.invariant.1 ∙ words-end l.last log l.w-index (omega arith));
      valid = l.invariant.0;
    }
