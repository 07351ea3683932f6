-- `sheet::line` meets its contract: too long, or what its first word asks for; what is printed fits, and what is kept stays valid.
use mathlib.Core.Path.{◌≡◌}
use native.Mathlib.Omega.{arith}
use borrow.Author.Tests.{lt-ltb, le-ltb}
use Rattle.text.specs.PutLaws.{put-within}
use Rattle.text.specs.WordLaws.{first-of}
use Rattle.text.specs.Words.{words_of, first_of}
use Rattle.sheet.specs.Orders.{word_named}
use Rattle.sheet.specs.Sheet.{word_text, after_line, line_text}
use Rattle.sheet.specs.SheetLaws.{line-within, ready-line}
use borrow.Author.Rules.{rules}
use Rattle.sheet.proofs.line.Goals as goal

pub returns-then-bytes-gt1024 : goal.returns-then-bytes-gt1024
unfolding after_line line_text
returns-then-bytes-gt1024 c = let w = c in
    let long = lt-ltb _ _ w.if-bytes-gt1024.true in
    record {
      is = rw long;
      text = rw long w.wrong.ensures;
      ready = w.requires.0;
      within = put-within w.wrong.ensures 15 (omega arith) (omega arith);
    }

pub returns : goal.returns
unfolding after_line line_text
returns c = let d = c in
    let s = d in
    let line = s.args.bytes.now in
    let short = le-ltb _ _ d.if-bytes-gt1024.false in
    let e : d.named-word.result ≡ word_named (first_of (words_of line)) = rw (d.named-word.ensures, d.word.ensures, first-of line) in
    let is : d.done.result.sheet ≡ after_line s.args.s line = rw (short, ← e) d.done.ensures.is in
    let told : word_text s.args.s line d.named-word.result ≡ line_text s.args.s line = rw (short, ← e) in
    record {
      is = is;
      text = rw (short, ← e) d.done.ensures.text;
      ready = rw is (ready-line s.args.s line s.requires.0);
      within = line-within s.args.s line told d.done.ensures.text s.requires.1;
    }
