-- `ssi::telegram` meets its contract: the coded position fits its place, and the error bit stands beside it.
use Rattle.ssi.proofs.Arms.{unmarked-is, marked-is}
use Rattle.ssi.proofs.telegram.Goals as goal

pub returns-then-l-eq0 : goal.returns-then-l-eq0
returns-then-l-eq0 c = let start = c in
    unmarked-is start.args.l start.requires.0 start.args.position start.args.error c.code.result start.requires.1 c.if-l-eq0.true
    c.code.ensures

pub returns : goal.returns
returns c = let start = c in
    let coding = c.code in
    marked-is start.args.l start.requires.0 start.args.position start.args.error coding.result c.level_asked.result start.requires.1 c.if-l-eq0.false
    coding.ensures c.level_asked.ensures
