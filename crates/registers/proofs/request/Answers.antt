-- `registers::request` meets its contract: each thing asked has its reply.
use borrow.Author.Rules.{rules}
use mathlib.Core.Path.{◌≡◌}
use mir.Syntax.{w32}
use Rattle.integers.specs.IntLaws.{bk}
use Rattle.registers.specs.Serve.{request_of}
use Rattle.registers.proofs.request.Goals as goal

pub returns-in-Broken : goal.returns-in-Broken
unfolding request_of
returns-in-Broken c = rw (c.unchanged.ensures, c.no_reply.ensures, c.in-Broken.is)

pub returns-in-Ignored : goal.returns-in-Ignored
unfolding request_of
returns-in-Ignored c = rw (c.unchanged-in-Ignored.ensures, c.no_reply-in-Ignored.ensures, c.in-Ignored.is)

pub returns-in-Exception : goal.returns-in-Exception
unfolding request_of
returns-in-Exception c = let e = c in
    rw (c.unchanged-in-Exception.ensures, c.send.ensures, e.exception_reply.ensures, e.from.ensures, e.in-Exception.is)

pub returns-in-Read : goal.returns-in-Read
unfolding request_of
returns-in-Read c = let e = c in
    let w = e in
    let asked = w in
    let shown = asked.args.l.shown in
    let read : bk w32 w.word_in-z.result ≡ w.word_in-z.result = search rules in
    let kept : bk w32 shown ≡ shown = search rules in
    rw (c.unchanged-in-Read.ensures, c.send-in-Read.ensures, e.read_reply.ensures, read, w.word_in-z.ensures, kept, asked.in-Read.is)

pub returns-in-Write : goal.returns-in-Write
unfolding request_of
returns-in-Write c = let asked = c in
    let z : bk w32 asked.in-Write.z ≡ asked.in-Write.z = search rules in
    rw asked.in-Write.is (rw z at c.write.ensures)
