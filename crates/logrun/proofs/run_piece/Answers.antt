-- `logrun::run_piece` meets its contract: the lines are those of `feed`, and where the run ends the last line is put behind them, for which there is room.
use mathlib.Core.Path.{◌≡◌, sym, ap}
use mathlib.Core.Bool.{Bool, true, false, not}
use native.Mathlib.Omega.{arith}
use Prim.Native.Nat.{◌*◌}
use lib.ListN.{length}
use Rattle.lines.specs.LineLaws.{longest}
use Rattle.text.specs.PutLaws.{put-room, put_both}
use Rattle.logrun.specs.Pieces.{goes_on}
use Rattle.logrun.proofs.PieceLaws.{piece-goes, piece-ends, lines-at-most}
use Rattle.logrun.proofs.run_piece.Goals as goal

none-is : (some none : Bool) → some ≡ not none → not some ≡ none
none-is some true e = ap not e
none-is some false e = ap not e

pub returns-then-is_none-full : goal.returns-then-is_none-full
unfolding goes_on
returns-then-is_none-full c = let start = c in
    let f = c.feed-f.ensures in
    let p = start.args.p in
    let bytes = start.args.bytes.now in
    let e : goes_on start.args.full p bytes ≡ true = rw (← f.is, none-is _ _ c.is_none.ensures) c.if-is_none-full.true in
    record {
      is = f.is;
      goes = sym e;
      text = rw (piece-goes start.args.full p bytes e) f.text;
      ready = f.ready;
      within = f.within;
    }

pub finish-last-requires : goal.finish-last-requires
finish-last-requires c = let start = c in
    let put = c.feed-f.ensures.text in
    let bytes = start.args.bytes.now in
    put-room put (32 * length bytes) longest (lines-at-most start.args.p bytes) (omega (arith, start.requires.1))

pub returns : goal.returns
unfolding goes_on
returns c = let start = c in
    let f = c.feed-f.ensures in
    let p = start.args.p in
    let bytes = start.args.bytes.now in
    let e : goes_on start.args.full p bytes ≡ false = rw (← f.is, none-is _ _ c.is_none.ensures) c.if-is_none-full.false in
    let last = rw f.is at c.finish-last.ensures.text in
    let put = put_both f.text last (omega (arith, lines-at-most p bytes, start.requires.1)) in
    record {
      is = f.is;
      goes = sym e;
      text = rw (piece-ends start.args.full p bytes e) put;
      ready = f.ready;
      within = c.finish-last.ensures.within;
    }
