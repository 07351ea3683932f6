-- `logrun::table_of` meets its contract. The invariant: the words stored and those of the chunks left are the table.
use mathlib.Core.Path.{◌≡◌, refl, sym, ap, ◌∙◌}
use mathlib.Core.List.{List, ◌++◌, map}
use Prim.Native.Nat.{◌+◌, ◌<◌}
use native.Mathlib.Omega.{arith}
use lib.IntN.{ℤ}
use lib.ListN.{length, take, length-append, length-set}
use lib.Seq.{length-take-le}
use mir.Syntax.{w32}
use Rattle.std.specs.Slice.Iter.{chunks_exact_rest}
use Rattle.integers.specs.IntLaws.{bk, back_at}
use Rattle.events.specs.Bytes.{words_in}
use Rattle.integers.specs.TwosComplement.{signed_of}
use Rattle.logrun.specs.Input.{table_bytes, table_of}
use Rattle.logrun.proofs.Pieces.{table_more, table_done}
use Rattle.logrun.proofs.table_of.Goals as goal

pub loop-k-init : goal.loop-k-init
loop-k-init c =
    let into = c.into_iter-k-iterator.ensures.into_iter_gives in
    let made = c.enumerate-k-items.ensures in
    let chunks = c.chunks_exact.ensures in (
      refl,
      rw (into, made.source) chunks.size,
      rw (into, made.source, made.count, chunks.rest) (omega (arith, length-take-le 416 c.args.bytes.now c.requires)),
      rw (into, made.source, made.count, chunks.rest) refl,
    )

pub loop-k-preserved : goal.loop-k-preserved
loop-k-preserved c =
    let s = c.in-Some.ensures.steps in
    let inv = c.loop-k.invariant in
    let rest = chunks_exact_rest c.loop-k.k-iterator.iter in
    let more = chunks_exact_rest c.next.new.self.iter in
    let all : List ℤ = map signed_of (words_in (take table_bytes c.args.bytes.now)) in
    let z = c.signed.result in
    let four : length c.in-Some.word.now ≡ 4 = s.0.1.1 ∙ inv.1 in
    let parted : length rest ≡ 4 + length more = ap length s.0.1.0 ∙ rw (length-append, four) in
    let k : c.in-Some.k < length c.loop-k.t = omega (arith, s.1, inv.0, inv.2, parted) in
    let words : all ≡ take c.in-Some.k c.loop-k.t ++ map signed_of (words_in rest) = inv.3 ∙ rw s.1 in
    let e = back_at w32 z c.signed.type_inv ∙ c.signed.ensures in (
      length-set c.loop-k.t c.in-Some.k (bk w32 z) ∙ inv.0,
      s.0.0 ∙ inv.1,
      omega (arith, s.1, s.2, inv.2, parted),
      table_more all c.loop-k.t rest c.in-Some.word.now more c.in-Some.k c.word_at.result (bk w32 z) words k s.0.1.0 four c.word_at.ensures e
          ∙ rw (s.1, s.2),
    )

pub returns : goal.returns
unfolding table_of
returns c =
    let s = c.in-None.ensures.steps in
    let inv = c.loop-k.invariant in
    let rest = chunks_exact_rest c.loop-k.k-iterator.iter in
    let short : length rest < 4 = rw inv.1 at s.0.1.0 in
    sym (inv.3 ∙ table_done c.loop-k.t c.loop-k.k-iterator.count rest (omega (arith, inv.2, short)) inv.0 short)
