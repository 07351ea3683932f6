-- `text::put_number` meets its contract: the number is written in the part of the buffer from `at` on, and the byte behind it.
use Prim.Native.Nat.{◌+◌, ◌<◌}
use mathlib.Core.Path.{◌≡◌}
use native.Mathlib.Omega.{arith}
use lib.ListN.{length, length-append}
use mir.Syntax.{w64}
use mir.Facts.{to_z-of_z}
use Rattle.decimal.specs.Decimal.{text_of}
use Rattle.decimal.specs.DecimalLaws.{text-at-most-19}
use Rattle.text.proofs.Parts.{number_put}
use Rattle.text.proofs.put_number.Goals as goal

pub overflow_add-end : goal.overflow_add-end
overflow_add-end c =
    let written : c.write-n.result ≡ length (text_of c.args.z) =
    rw (to_z-of_z {w = w64} c.ranges.z) at c.write-n.ensures.0 in
    let fitting : c.args.at + c.write-n.result < length c.args.out.now =
    omega (arith, written, text-at-most-19 c.args.z) in
    omega (arith, fitting)

pub bounds-out-end : goal.bounds-out-end
bounds-out-end c =
    let written : c.write-n.result ≡ length (text_of c.args.z) =
    rw (to_z-of_z {w = w64} c.ranges.z) at c.write-n.ensures.0 in
    let fitting : c.args.at + c.write-n.result < length c.args.out.now =
    omega (arith, written, text-at-most-19 c.args.z) in
    omega (arith, fitting)

pub overflow_add-result : goal.overflow_add-result
overflow_add-result c =
    let written : c.write-n.result ≡ length (text_of c.args.z) =
    rw (to_z-of_z {w = w64} c.ranges.z) at c.write-n.ensures.0 in
    let fitting : c.args.at + c.write-n.result < length c.args.out.now =
    omega (arith, written, text-at-most-19 c.args.z) in
    omega (arith, fitting)

pub returns : goal.returns
returns c =
    let written : c.write-n.result ≡ length (text_of c.args.z) =
    rw (to_z-of_z {w = w64} c.ranges.z) at c.write-n.ensures.0 in
    let fitting : c.args.at + c.write-n.result < length c.args.out.now =
    omega (arith, written, text-at-most-19 c.args.z) in
    let start = c in
    let args = start.args in
    let w = c.write-n in
    record {
      ends = rw length-append (omega (arith, written));
      holds =
          number_put args.out.now (text_of args.z) w.new.out args.at w.result args.after (written) (fitting)
          (rw (to_z-of_z {w = w64} start.ranges.z) at w.ensures.1);
    }
