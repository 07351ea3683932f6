-- `sheet::last` meets its contract: the bytes of the line are the last piece.
use mathlib.Core.Path.{◌≡◌, sym, ap, ◌∙◌}
use native.Mathlib.Omega.{arith}
use lib.ListN.{length}
use lib.Seq.{length-take-le}
use Rattle.script.specs.declared.frames.Bytes.{Bytes}
use Rattle.script.proofs.FrameLaws.{frame-fits, packed-length, packed-bytes}
use borrow.Author.Rules.{rules}
use Rattle.sheet.proofs.last.Goals as goal

pub slice_bounds-bytes-end : goal.slice_bounds-bytes-end
slice_bounds-bytes-end c = let f = c in
    let n : length f.frame-f.result.bytes ≡ 300 = search rules in
    let size = ap (λ (x : Bytes). x.length) f.frame-f.ensures ∙ packed-length _ in
    omega (arith, size, frame-fits f.args.line.now)

pub slice_bounds-piece-end : goal.slice_bounds-piece-end
slice_bounds-piece-end c = let n : length c.frame-f.result.bytes ≡ 300 = search rules in
    let size = ap (λ (x : Bytes). x.length) c.frame-f.ensures ∙ packed-length _ in
    sym (length-take-le _ _ (omega (arith, size, frame-fits c.args.line.now)))

pub piece-requires : goal.piece-requires
piece-requires c = let f = c in
    let s = f in
    rw (f.frame-f.ensures, packed-bytes) (s.requires.0, omega (arith, frame-fits s.args.line.now))

pub returns : goal.returns
returns c = let g = c in
    let f = g in
    record {
      is = rw (f.frame-f.ensures, packed-bytes) at g.piece.ensures.is;
      text = rw (f.frame-f.ensures, packed-bytes) at g.piece.ensures.text;
    }
