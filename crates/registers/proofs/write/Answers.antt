-- `registers::write` meets its contract: the changed table is loaded; it is put in force with its fresh state, or nothing changes.
use mathlib.Core.Path.{◌≡◌, sym, ◌∙◌}
use mir.Facts.{to_z-of_z}
use Rattle.parameters.specs.Slots.{with_word}
use Rattle.registers.specs.Serve.{slot_in}
use Rattle.registers.proofs.ServeLaws.{refused-write, write_done}
use Rattle.registers.proofs.write.Goals as goal

pub returns-then-is_some : goal.returns-then-is_some
returns-then-is_some c =
    let changed-table : let x = c in
    let a = x.args in
    x.changed-next.result ≡ with_word a.t.now (slot_in a.register) a.z =
    let x = c in
    rw (to_z-of_z x.ranges.z, x.from-slot.ensures) at x.changed-next.ensures in
    let e = c in
    let test = e in
    let x = test in
    rw (c.unchanged.ensures, c.send.ensures, e.exception_reply.ensures, e.from.ensures)
    (refused-write _ _ _ _ _ _ x.load-x.result (changed-table) x.load-x.ensures.is (sym c.is_some.ensures ∙ test.if-is_some.true))

pub returns : goal.returns
returns c =
    let changed-table : let x = c in
    let a = x.args in
    x.changed-next.result ≡ with_word a.t.now (slot_in a.register) a.z =
    let x = c in
    rw (to_z-of_z x.ranges.z, x.from-slot.ensures) at x.changed-next.ensures in
    let w = c in
    let test = w in
    let x = test in
    rw (c.send-2.ensures, w.write_reply.ensures)
    (write_done _ _ _ _ _ _ x.load-x.result (changed-table) x.load-x.ensures.is (sym c.is_some.ensures ∙ test.if-is_some.false))
