-- `dispatcher::register` meets its contract: each refusal by its own test, in the paper's order.
use Rattle.std.proofs.Common.{◌≡◌, Err, rules, sym, ◌∙◌, arith}
use Rattle.dispatcher.proofs.CallLaws.{address-err, address-ok, register-outside, register-present, register-full, register-joined}
use Rattle.dispatcher.proofs.Dispatcher.register.Goals as goal

pub returns-in_err-a : goal.returns-in_err-a
returns-in_err-a c = let a = c.args in
    let e = address-err a.address c.in_err-a.field-0.0 (sym c.address_of.ensures ∙ c.in_err-a.was) in
    let told : c.from_residual.result ≡ Err c.in_err-a.field-0.0 = search rules in
    rw (told, e.1) (sym (register-outside a.self.now a.address e.0))

pub returns-then-is_present : goal.returns-then-is_present
returns-then-is_present c = let a = c.args in
    let k = address-ok a.address c.in_ok-a.a (sym c.address_of.ensures ∙ c.in_ok-a.was) in
    let there = sym c.is_present.ensures ∙ c.if-is_present.true in
    sym (register-present a.self.now a.address k.0 (rw k.1 at there))

pub returns-then-count-ge-MOST : goal.returns-then-count-ge-MOST
returns-then-count-ge-MOST c = let a = c.args in
    let k = address-ok a.address c.in_ok-a.a (sym c.address_of.ensures ∙ c.in_ok-a.was) in
    let free = sym c.is_present.ensures ∙ c.if-is_present.false in
    sym (register-full a.self.now a.address k.0 (rw k.1 at free) (omega (arith, c.count.ensures, c.if-count-ge-MOST.true)))

pub returns : goal.returns
returns c = let a = c.args in
    let k = address-ok a.address c.in_ok-a.a (sym c.address_of.ensures ∙ c.in_ok-a.was) in
    let free = sym c.is_present.ensures ∙ c.if-is_present.false in
    rw (c.insert.ensures, k.1) (sym (register-joined a.self.now a.address k.0 (rw k.1 at free) (omega (arith, c.count.ensures, c.if-count-ge-MOST.false))))
