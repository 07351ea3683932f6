-- `text::hex::put_rest` meets its contract: each turn puts the pair of one byte behind those of the bytes before it.
use Prim.Native.Nat.{◌<◌}
use mathlib.Core.Path.{◌≡◌, refl, ◌∙◌}
use native.Mathlib.Omega.{arith}
use lib.ListN.{length, take}
use lib.Seq.{length-take-le}
use Rattle.text.specs.Hex.{spaced_pairs}
use Rattle.text.specs.PutLaws.{put-none, put_both, put-length}
use Rattle.text.proofs.HexLaws.{spaced-next, spaced-length}
use Rattle.text.proofs.hex.put_rest.Goals as goal

pub loop-b-init : goal.loop-b-init
unfolding spaced_pairs
loop-b-init c = (refl, omega arith, put-none _ _)

pub loop-b-preserved : goal.loop-b-preserved
loop-b-preserved c = let l = c.loop-b in
    let bytes = c.args.bytes.now in
    let h : l.b-index < length bytes = omega arith in
    let k : length (take l.b-index bytes) ≡ l.b-index = length-take-le l.b-index bytes (omega arith) in
    let s = spaced-length (take l.b-index bytes) in
    let p = c.put_spaced-p.ensures in (
      put-length p (omega arith) ∙ l.invariant.0,
      omega (arith, p.ends),
      rw (spaced-next bytes l.b-index h) (put_both l.invariant.2 p (omega arith)),
    )
