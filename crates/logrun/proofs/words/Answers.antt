-- `logrun::words` meets its contract. The invariant: the run so far and the words left are the whole run; the lines so far stand at the start of the buffer,
-- at most 128 bytes a word, and the rest of it is as it was.
use mathlib.Core.Path.{◌≡◌, sym, ap, ◌∙◌}
use mathlib.Core.List.{append-nil}
use Prim.Native.Nat.{◌+◌, ◌≤◌, ◌<◌}
use native.Mathlib.Omega.{arith}
use lib.ListN.{length, take, length-append}
use Rattle.std.specs.Slice.Iter.{chunks_exact_rest}
use Rattle.events.specs.Bytes.{words_in}
use Rattle.text.specs.PutLaws.{put-length}
use Rattle.logrun.specs.Progress.{progress_of, word_text, words_text}
use Rattle.logrun.specs.ProgressLaws.{word-at-most, fed-done, text-done}
use Rattle.logrun.proofs.Pieces.{fed-more, text-more, behind_more, all-put}
use Rattle.logrun.proofs.words.Goals as goal

pub loop-word-preserved : goal.loop-word-preserved
loop-word-preserved c =
    let l = c.loop-word in
    let inv = l.invariant in
    let s = c.in-Some.ensures.steps in
    let rest = chunks_exact_rest l.word-iterator in
    let more = chunks_exact_rest c.next.new.self in
    let four = c.in-Some.word.now in
    let long : length four ≡ 4 = s.1.1 ∙ inv.0 in
    let parted : length rest ≡ 4 + length more = ap length s.1.0 ∙ rw (length-append, long) in
    let w = c.take-r in
    let read = c.word_at-w in
    let p = progress_of l.t l.course in
    let put = w.ensures.text in
    let m = word-at-most p read.result in
    let room : l.end + length (word_text p read.result) ≤ length l.out = omega (arith, inv.2, inv.3, parted, m, c.requires.1) in
    let f = fed-more p _ rest four more l.out _ l.end _ read.result put room w.ensures.is read.ensures s.1.0 long in
    let t = text-more p _ rest four more l.out _ l.end _ read.result put room w.ensures.is read.ensures s.1.0 long in
    let b = behind_more p _ rest four more l.out _ l.end _ read.result put room w.ensures.is read.ensures s.1.0 long in (
      s.0 ∙ inv.0,
      w.ensures.ready,
      omega (arith, put.ends, inv.2, parted, m),
      put-length put room ∙ inv.3,
      inv.4 ∙ f,
      inv.5 ∙ t,
      b c.args.out.now inv.6,
    )

pub returns : goal.returns
returns c =
    let l = c.loop-word in
    let inv = l.invariant in
    let s = c.in-None.ensures.steps in
    let rest = chunks_exact_rest l.word-iterator in
    let short : length rest < 4 = rw inv.0 at s.1.0 in
    let p = progress_of l.t l.course in
    let all : words_text (progress_of c.args.t.now c.args.c) (words_in c.args.bytes.now) ≡ take l.end l.out = rw (text-done p rest short, append-nil) at inv.5 in
    record {
      is = sym (inv.4 ∙ fed-done p rest short);
      text = all-put c.args.out.now l.out _ l.end all inv.6 (omega (arith, inv.2, inv.3, c.requires.1));
      ready = inv.1;
      within = omega (arith, inv.2, inv.3, c.requires.1);
    }
