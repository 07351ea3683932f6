-- `slave::stream::write_line` is safe: what is held of a line is within its array.
use Rattle.std.proofs.Common.{◌≡◌, length, arith, rules}
use Rattle.script.specs.Collector.{most}
use Rattle.slave.proofs.stream.write_line.Goals as goal

pub slice_bounds-bytes-end : goal.slice_bounds-bytes-end
slice_bounds-bytes-end g c = let n : length c.args.line.bytes ≡ most = search rules in
    omega (arith, c.held-n.ensures.1)
