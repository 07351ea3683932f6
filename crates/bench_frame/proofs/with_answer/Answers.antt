-- `bench_frame::with_answer` is safe: a reply has at most the 9 bytes of its array.
use Rattle.std.proofs.Common.{◌≡◌, length, arith, rules}
use Rattle.bench_frame.proofs.with_answer.Goals as goal

pub slice_bounds-bytes-end : goal.slice_bounds-bytes-end
slice_bounds-bytes-end c = let n : length c.args.reply.bytes ≡ 9 = search rules in
    omega arith
