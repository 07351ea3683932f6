-- `slave::files::frame` meets its contract: what is answered are the bytes held, as `registers` answers them.
use Rattle.std.proofs.Common.{◌≡◌, length, ap, rules}
use Rattle.framing.proofs.CollectorLaws.{held-is}
use Rattle.slave.specs.Files.{replied_by}
use Rattle.slave.proofs.files.frame.Goals as goal

pub returns-clause-is : goal.returns-clause-is
returns-clause-is c =
    let line = c.args.line.now in
    let room : length line.bytes ≡ 257 = search rules in
    ap replied_by (rw (c.held_length-n.ensures.is, held-is line room) at c.answer-r.ensures.is)
