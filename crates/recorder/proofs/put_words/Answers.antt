-- `recorder::put_words` meets its contract. The invariant: the bytes of the words before, and behind them what was there.
use mathlib.Core.Path.{◌≡◌, refl, ap, ap₂, ◌∙◌}
use mathlib.Core.List.{List, ◌++◌, append-nil}
use Prim.Native.Nat.{ℕ, ◌+◌, ◌-◌, ◌*◌}
use native.Mathlib.Omega.{arith}
use lib.ListN.{length, take, drop, drop_of_length-le}
use lib.Seq.{take-length}
use Rattle.events.specs.Bytes.{bytes_of}
use Rattle.recorder.specs.LoopLaws.{put-chunk}
use borrow.Author.Rules.{rules}
use Rattle.recorder.proofs.put_words.Goals as goal

pub loop-k-init : goal.loop-k-init
unfolding bytes_of
loop-k-init c = (refl, refl)

pub loop-k-preserved : goal.loop-k-preserved
loop-k-preserved c =
    let k = c.loop-k.k in (
      search rules,
      put-chunk c.args.words.now c.args.bytes.now c.loop-k.bytes k (omega arith) c.requires c.loop-k.invariant.1
          c.copy_from_slice.new.self (4 * k + 4 - 4 * k) (omega arith) (c.copy_from_slice.ensures.after ∙ c.bytes_of.ensures),
    )

pub returns : goal.returns
returns c =
    let words = c.args.words.now in
    let old = c.args.bytes.now in
    let k : c.loop-k.k ≡ length words = omega arith in
    c.loop-k.invariant.1 ∙ ap (λ (n : ℕ). bytes_of (take n words) ++ drop (4 * n) old) k
    ∙ ap₂ (λ (x y : List ℕ). bytes_of x ++ y) (take-length words) (drop_of_length-le old {i = 4 * length words} (omega arith)) ∙ append-nil (bytes_of words)
