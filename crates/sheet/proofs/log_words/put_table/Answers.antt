-- `sheet::log_words::put_table` meets its contract: each turn puts the bytes of one word behind those of the words before it.
use mathlib.Core.Path.{◌≡◌, refl, ap, ◌∙◌}
use Prim.Native.Nat.{◌≤◌}
use native.Mathlib.Omega.{arith}
use lib.IntN.{pos}
use lib.ListN.{length, get_or, take}
use lib.Seq.{length-take-le}
use borrow.Author.Rules.{rules}
use Rattle.integers.specs.TwosComplement.{bits_of}
use Rattle.text.specs.PutLaws.{put-none, put_both, put-length}
use Rattle.events.specs.Bytes.{bytes_of}
use Rattle.sheet.specs.LogWordLaws.{table-length, table-next}
use Rattle.sheet.proofs.log_words.put_table.Goals as goal

pub loop-z-init : goal.loop-z-init
unfolding bytes_of
loop-z-init c = (refl, refl, c.requires.1, put-none _ 0)

pub loop-z-preserved : goal.loop-z-preserved
loop-z-preserved c =
    let l = c.loop-z in
    let t = c.args.t.now in
    let p = c.put_word-p.ensures in
    let k : length (take l.z-index t) ≡ l.z-index = length-take-le l.z-index t (omega arith) in
    let n = table-length (take l.z-index t) in
    let e : c.bits.result ≡ bits_of (get_or t l.z-index (pos 0)) = search rules in (
      put-length p (omega arith) ∙ l.invariant.0,
      omega (arith, p.ends),
      l.invariant.2,
      rw (table-next t l.z-index (pos 0) (omega arith), ← e) (put_both l.invariant.3 p (omega arith)),
    )
