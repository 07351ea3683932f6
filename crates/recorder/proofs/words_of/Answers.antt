-- `recorder::words_of` meets its contract. The invariant: the words stored and those of the chunks left are the words of the group.
use mathlib.Core.Path.{◌≡◌, sym, ap, ap₂, ◌∙◌}
use mathlib.Core.List.{List, ◌++◌, append-nil}
use Prim.Native.Nat.{ℕ, ◌+◌, ◌<◌}
use native.Mathlib.Omega.{arith}
use lib.ListN.{length, take, length-append}
use lib.Seq.{take_all}
use Rattle.std.specs.Slice.Iter.{chunks_exact_rest}
use Rattle.events.specs.Bytes.{words_in}
use Rattle.events.proofs.ByteLaws.{few}
use Rattle.recorder.specs.LoopLaws.{words_more}
use borrow.Author.Rules.{rules}
use Rattle.recorder.proofs.words_of.Goals as goal

pub loop-k-preserved : goal.loop-k-preserved
loop-k-preserved c =
    let s = c.in-Some.ensures.steps in
    let inv = c.loop-k.invariant in
    let rest = chunks_exact_rest c.loop-k.k-iterator.iter in
    let more = chunks_exact_rest c.next.new.self.iter in
    let four : length c.in-Some.bytes.now ≡ 4 = s.0.1.1 ∙ inv.1 in
    let parted : length rest ≡ 4 + length more = ap length s.0.1.0 ∙ rw (length-append, four) in
    let k : c.in-Some.k < length c.loop-k.words = omega (arith, s.1, inv.0, inv.2, parted) in
    let words : words_in c.args.group.now ≡ take c.in-Some.k c.loop-k.words ++ words_in rest = inv.3 ∙ rw s.1 in (
      search rules,
      s.0.0 ∙ inv.1,
      omega (arith, s.1, s.2, inv.2, parted),
      words_more (words_in c.args.group.now) c.loop-k.words rest c.in-Some.bytes.now more c.in-Some.k c.word_at.result words k s.0.1.0 four c.word_at.ensures
          ∙ rw (s.1, s.2),
    )

pub returns : goal.returns
returns c =
    let s = c.in-None.ensures.steps in
    let inv = c.loop-k.invariant in
    let rest = chunks_exact_rest c.loop-k.k-iterator.iter in
    let short : length rest < 4 = rw inv.1 at s.0.1.0 in
    let all : c.loop-k.k-iterator.count ≡ 32 = omega (arith, inv.2, short) in
    sym (inv.3 ∙ ap₂ (λ (x y : List ℕ). x ++ y) (take_all c.loop-k.k-iterator.count c.loop-k.words (omega (arith, inv.0, all))) (few rest short) ∙ append-nil c.loop-k.words)
