-- `dispatcher::report` meets its contract: 32 unless the address has a panel.
use Rattle.std.proofs.Common.{◌≡◌, Err, rules, sym, ◌∙◌}
use Rattle.dispatcher.proofs.CallLaws.{address-err, address-ok, report-outside, report-unknown, report-taken}
use Rattle.dispatcher.proofs.Dispatcher.report.Goals as goal

pub returns-in_err-a : goal.returns-in_err-a
returns-in_err-a c = let a = c.args in
    let e = address-err a.address c.in_err-a.field-0.0 (sym c.address_of.ensures ∙ c.in_err-a.was) in
    let told : c.from_residual.result ≡ Err c.in_err-a.field-0.0 = search rules in
    rw (told, e.1) (sym (report-outside a.self.now a.address a.error e.0))

pub returns-then-not-is_present : goal.returns-then-not-is_present
returns-then-not-is_present c = let a = c.args in
    let k = address-ok a.address c.in_ok-a.a (sym c.address_of.ensures ∙ c.in_ok-a.was) in
    let absent = sym c.is_present.ensures ∙ c.if-not-is_present.true in
    sym (report-unknown a.self.now a.address a.error k.0 (rw k.1 at absent))

pub returns : goal.returns
returns c = let a = c.args in
    let k = address-ok a.address c.in_ok-a.a (sym c.address_of.ensures ∙ c.in_ok-a.was) in
    let there = sym c.is_present.ensures ∙ c.if-not-is_present.false in
    rw (c.put.ensures, k.1) (sym (report-taken a.self.now a.address a.error k.0 (rw k.1 at there)))
