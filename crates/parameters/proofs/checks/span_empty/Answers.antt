-- The two words read are the start and the end.
use Rattle.parameters.specs.Load.{span_empty}
use Rattle.parameters.proofs.LoadLaws.{bits-same}
use Rattle.parameters.proofs.checks.span_empty.Goals as goal

pub returns : goal.returns
unfolding span_empty
returns c =
    let start = c.word in
    let end = c.word-2 in
    rw (bits-same (record { sfits = start.type_inv }) (record { sfits = end.type_inv }), start.ensures, end.ensures)
