-- `modbus::requested` meets its contract: the tests are the definition's, in its order; each byte read lies in a frame that is not broken.
use Prim.Native.Nat.{◌≤◌}
use mathlib.Core.Path.{◌≡◌, sym, ◌∙◌}
use native.Mathlib.Omega.{arith}
use borrow.Author.Tests.{eq-eqb, ne_eqb}
use mir.Syntax.{w32}
use lib.ListN.{length}
use Rattle.integers.specs.IntLaws.{back_at}
use mathlib.Core.Bool.{false}
use Rattle.modbus.specs.Request.{is_unknown, wrong_amount, wrong_start, request_in}
use Rattle.modbus.proofs.WholeLaws.{Whole, whole, known-long, write-long}
use Rattle.modbus.proofs.requested.Goals as goal

pub unknown-requires : goal.unknown-requires
unknown-requires c = tt

pub bounds-f-1 : goal.bounds-f-1
bounds-f-1 c =
    let at-start : Whole c.args.f.now =
    whole c.args.f.now c.requires in
    omega (arith, at-start)

pub returns-then-unknown : goal.returns-then-unknown
unfolding request_in
returns-then-unknown c = let u = c in
    rw (sym u.unknown.ensures ∙ c.if-unknown.true)

pub wrong_amount-requires : goal.wrong_amount-requires
wrong_amount-requires c =
    let at-start : Whole c.args.f.now =
    whole c.args.f.now c.requires in
    let long : 8 ≤ length c.args.f.now =
    known-long _ (at-start) (sym c.unknown.ensures ∙ c.if-unknown.false) in
    long

pub bounds-f-1-then-wrong_amount : goal.bounds-f-1-then-wrong_amount
bounds-f-1-then-wrong_amount c =
    let at-start : Whole c.args.f.now =
    whole c.args.f.now c.requires in
    let long : 8 ≤ length c.args.f.now =
    known-long _ (at-start) (sym c.unknown.ensures ∙ c.if-unknown.false) in
    omega (arith, long)

pub returns-then-wrong_amount : goal.returns-then-wrong_amount
unfolding request_in
returns-then-wrong_amount c = let a = c in
    let u = a in
    rw (sym u.unknown.ensures ∙ a.if-unknown.false, sym a.wrong_amount.ensures ∙ c.if-wrong_amount.true)

pub wrong_start-requires : goal.wrong_start-requires
wrong_start-requires c =
    let at-start : Whole c.args.f.now =
    whole c.args.f.now c.requires in
    let long : 8 ≤ length c.args.f.now =
    known-long _ (at-start) (sym c.unknown.ensures ∙ c.if-unknown.false) in
    long

pub bounds-f-1-then-wrong_start : goal.bounds-f-1-then-wrong_start
bounds-f-1-then-wrong_start c =
    let at-start : Whole c.args.f.now =
    whole c.args.f.now c.requires in
    let long : 8 ≤ length c.args.f.now =
    known-long _ (at-start) (sym c.unknown.ensures ∙ c.if-unknown.false) in
    omega (arith, long)

pub returns-then-wrong_start : goal.returns-then-wrong_start
unfolding request_in
returns-then-wrong_start c = let s = c in
    let a = s in
    let u = a in
    rw (sym u.unknown.ensures ∙ a.if-unknown.false, sym a.wrong_amount.ensures ∙ s.if-wrong_amount.false, sym s.wrong_start.ensures ∙ c.if-wrong_start.true)

pub bounds-f-1-2 : goal.bounds-f-1-2
bounds-f-1-2 c =
    let at-start : Whole c.args.f.now =
    whole c.args.f.now c.requires in
    let long : 8 ≤ length c.args.f.now =
    known-long _ (at-start) (sym c.unknown.ensures ∙ c.if-unknown.false) in
    omega (arith, long)

pub start_of-requires : goal.start_of-requires
start_of-requires c =
    let at-start : Whole c.args.f.now =
    whole c.args.f.now c.requires in
    let long : 8 ≤ length c.args.f.now =
    known-long _ (at-start) (sym c.unknown.ensures ∙ c.if-unknown.false) in
    long

pub value_of-requires : goal.value_of-requires
value_of-requires c =
    let at-start : Whole c.args.f.now =
    whole c.args.f.now c.requires in
    let at-start : Whole c.args.f.now =
    whole c.args.f.now c.requires in
    let passed : let f = c.args.f.now in (is_unknown f ≡ false) × (wrong_amount f ≡ false) × (wrong_start f ≡ false) =
    let s = c in
    let a = s in
    let u = a in
    (sym u.unknown.ensures ∙ a.if-unknown.false, sym a.wrong_amount.ensures ∙ s.if-wrong_amount.false, sym s.wrong_start.ensures ∙ c.if-wrong_start.false) in
    let s = c in
    omega (arith, write-long _ at-start c.if-f-eq-WRITE.true (passed).1)

pub returns-then-f-eq-WRITE : goal.returns-then-f-eq-WRITE
unfolding request_in
returns-then-f-eq-WRITE c =
    let at-start : Whole c.args.f.now =
    whole c.args.f.now c.requires in
    let passed : let f = c.args.f.now in (is_unknown f ≡ false) × (wrong_amount f ≡ false) × (wrong_start f ≡ false) =
    let s = c in
    let a = s in
    let u = a in
    (sym u.unknown.ensures ∙ a.if-unknown.false, sym a.wrong_amount.ensures ∙ s.if-wrong_amount.false, sym s.wrong_start.ensures ∙ c.if-wrong_start.false) in
    let s = c in
    rw ((passed).0, (passed).1, (passed).2, eq-eqb _ _ c.if-f-eq-WRITE.true, back_at w32 c.value_of.result c.value_of.type_inv, c.value_of.ensures, c.start_of.ensures)

pub start_of-requires-2 : goal.start_of-requires-2
start_of-requires-2 c =
    let at-start : Whole c.args.f.now =
    whole c.args.f.now c.requires in
    let long : 8 ≤ length c.args.f.now =
    known-long _ (at-start) (sym c.unknown.ensures ∙ c.if-unknown.false) in
    long

pub returns : goal.returns
unfolding request_in
returns c =
    let at-start : Whole c.args.f.now =
    whole c.args.f.now c.requires in
    let passed : let f = c.args.f.now in (is_unknown f ≡ false) × (wrong_amount f ≡ false) × (wrong_start f ≡ false) =
    let s = c in
    let a = s in
    let u = a in
    (sym u.unknown.ensures ∙ a.if-unknown.false, sym a.wrong_amount.ensures ∙ s.if-wrong_amount.false, sym s.wrong_start.ensures ∙ c.if-wrong_start.false) in
    let s = c in
    rw ((passed).0, (passed).1, (passed).2, ne_eqb _ _ c.if-f-eq-WRITE.false, c.start_of-2.ensures)
