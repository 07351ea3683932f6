-- `slave::stream::asked` is safe: the buffer of a line has room for what is held.
use Rattle.std.proofs.Common.{◌≡◌, length, arith, rules}
use Rattle.script.specs.Collector.{most}
use Rattle.slave.proofs.stream.asked.Goals as goal

pub asked-requires : goal.asked-requires
asked-requires c = let n : length c.args.line.bytes ≡ most = search rules in
    omega arith
