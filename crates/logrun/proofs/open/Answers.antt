-- `logrun::open` meets its contract: a table that loads is told by the header, a refused one by its line.
use Rattle.std.proofs.Common.{◌≡◌, sym, ap, ◌∙◌, Some, None, arith}
use Rattle.lines.specs.LineLaws.{longest, header-line-at-most, load-line-at-most}
use Rattle.panel.specs.declared.Loaded.{Loaded}
use Rattle.panel.specs.Load.{loaded_of}
use Rattle.parameters.specs.Refusals.{slot_told}
use Rattle.parameters.proofs.LoadLaws.{slot_small}
use Rattle.text.specs.PutLaws.{put-within}
use Rattle.logrun.specs.Input.{table_of}
use Rattle.logrun.specs.Output.{opening_text}
use Rattle.logrun.proofs.open.Goals as goal

pub returns-in-None : goal.returns-in-None
unfolding opening_text
returns-in-None c =
    let begun = c.start-p.ensures in
    let l = c.load-l.ensures.is in
    let none : (loaded_of (table_of c.args.bytes.now)).refusal ≡ None = ap Loaded.refusal (sym l) ∙ c.in-None.is in
    let put = c.header_line-end.ensures in
    record {
      is = begun.is ∙ rw l;
      loads = rw none;
      text = rw none put;
      ready = begun.ready;
      within = put-within put longest header-line-at-most (omega arith);
    }

pub load_line-end-requires : goal.load_line-end-requires
unfolding loaded_of
load_line-end-requires c =
    let t = table_of c.args.bytes.now in
    let some : (loaded_of t).refusal ≡ Some c.in-Some.refusal = ap Loaded.refusal (sym c.load-l.ensures.is) ∙ c.in-Some.is in
    (omega arith, omega (arith, c.slot.ensures, ap slot_told some, slot_small t))

pub returns-in-Some : goal.returns-in-Some
unfolding opening_text
returns-in-Some c =
    let begun = c.start-p.ensures in
    let l = c.load-l.ensures.is in
    let some : (loaded_of (table_of c.args.bytes.now)).refusal ≡ Some c.in-Some.refusal = ap Loaded.refusal (sym l) ∙ c.in-Some.is in
    let put = rw (c.number.ensures, c.slot.ensures) at c.load_line-end.ensures in
    record {
      is = begun.is ∙ rw l;
      loads = rw some;
      text = rw some put;
      ready = begun.ready;
      within = put-within put longest (load-line-at-most _ _) (omega arith);
    }
