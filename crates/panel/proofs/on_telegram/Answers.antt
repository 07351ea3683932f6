-- `panel::on_telegram` meets its contract: refused it leaves the old values, else what is received, with its marks.
use borrow.Author.Tests.{not-true, not-false}
use Rattle.reading.specs.Reading.{marked_of}
use Rattle.state.specs.State.{reread_of, received_of}
use Rattle.state.proofs.ValidLaws.{reading-number}
use Rattle.panel.specs.Step.{on_telegram, switched_of, displayed_of}
use Rattle.panel.proofs.on_telegram.Goals as goal

pub returns-then-not-accepts : goal.returns-then-not-accepts
unfolding on_telegram
returns-then-not-accepts c = let test = c in
    let a = test.accepts in
    rw (← a.ensures, not-true a.result test.if-not-accepts.true-raw, c.refused.ensures)

-- the drive that is read is a number, whatever it is read from
pub recorded-next-requires : goal.recorded-next-requires
unfolding marked_of
recorded-next-requires c = let m = c in
    let b = m in
    let s = b in
    rw (c.received.ensures, m.read-m.ensures) (s.requires.driven, reading-number s.args.t.now _)

-- the record is brought up to date before switching and display, which do not look at it
pub returns : goal.returns
unfolding on_telegram received_of reread_of marked_of switched_of displayed_of
returns c = let r = c in
    let m = r in
    let b = m in
    let test = b in
    let a = test.accepts in
    rw (← a.ensures, not-false a.result test.if-not-accepts.false-raw, c.recorded-next.ensures, r.received.ensures, m.read-m.ensures, b.basis_after-b.ensures)
