-- `logrun::load` meets its contract: a short input has no table of 104 words, and else the words are the table.
use mathlib.Core.Path.{sym, ◌∙◌}
use native.Mathlib.Omega.{arith}
use Rattle.logrun.specs.InputLaws.{not-104-words, short-input}
use Rattle.logrun.proofs.load.Goals as goal

pub returns-then-bytes-lt-TABLE_BYTES : goal.returns-then-bytes-lt-TABLE_BYTES
returns-then-bytes-lt-TABLE_BYTES c = let start = c in
    record {
      is = c.load.ensures.is ∙ not-104-words _ (λ e. omega (arith, e)) ∙ sym (short-input start.args.bytes.now c.if-bytes-lt-TABLE_BYTES.true);
      valid = c.load.ensures.valid;
    }

pub returns : goal.returns
returns c = record {
  is = c.load-2.ensures.is ∙ rw c.table_of-t.ensures;
  valid = c.load-2.ensures.valid;
}
