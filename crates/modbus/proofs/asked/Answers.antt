-- `modbus::asked` meets its contract: 20 first, then the address, and what is asked of a frame that is not broken.
use mathlib.Core.Bool.{false}
use mathlib.Core.Path.{◌≡◌, sym, ◌∙◌}
use native.Mathlib.Omega.{arith}
use borrow.Author.Tests.{eq-eqb, ne_eqb}
use Rattle.modbus.specs.Request.{is_broken, asked_of}
use Rattle.modbus.proofs.WholeLaws.{Whole, whole}
use Rattle.modbus.proofs.asked.Goals as goal

pub returns-then-broken : goal.returns-then-broken
unfolding asked_of
returns-then-broken c = rw (sym c.broken.ensures ∙ c.if-broken.true)

pub bounds-f-0 : goal.bounds-f-0
bounds-f-0 c =
    let sound : is_broken c.args.f.now ≡ false =
    sym c.broken.ensures ∙ c.if-broken.false in
    let good : Whole c.args.f.now =
    whole _ (sound) in
    omega (arith, good)

pub bounds-f-1 : goal.bounds-f-1
bounds-f-1 c =
    let sound : is_broken c.args.f.now ≡ false =
    sym c.broken.ensures ∙ c.if-broken.false in
    let good : Whole c.args.f.now =
    whole _ (sound) in
    omega (arith, good)

pub requested-requires : goal.requested-requires
requested-requires c =
    let sound : is_broken c.args.f.now ≡ false =
    sym c.broken.ensures ∙ c.if-broken.false in
    sound

pub returns-then-f-eq-WRITE : goal.returns-then-f-eq-WRITE
unfolding asked_of
returns-then-f-eq-WRITE c =
    let sound : is_broken c.args.f.now ≡ false =
    sym c.broken.ensures ∙ c.if-broken.false in
    let s = c in
    rw (sound, eq-eqb _ _ c.if-f-eq0.true, eq-eqb _ _ c.if-f-eq-WRITE.true, c.requested.ensures)

pub returns-then-f-eq0 : goal.returns-then-f-eq0
unfolding asked_of
returns-then-f-eq0 c =
    let sound : is_broken c.args.f.now ≡ false =
    sym c.broken.ensures ∙ c.if-broken.false in
    rw (sound, eq-eqb _ _ c.if-f-eq0.true, ne_eqb _ _ c.if-f-eq-WRITE.false)

pub bounds-f-0-2 : goal.bounds-f-0-2
bounds-f-0-2 c =
    let sound : is_broken c.args.f.now ≡ false =
    sym c.broken.ensures ∙ c.if-broken.false in
    let good : Whole c.args.f.now =
    whole _ (sound) in
    omega (arith, good)

pub requested-requires-then-f-node : goal.requested-requires-then-f-node
requested-requires-then-f-node c =
    let sound : is_broken c.args.f.now ≡ false =
    sym c.broken.ensures ∙ c.if-broken.false in
    sound

pub returns-then-f-node : goal.returns-then-f-node
unfolding asked_of
returns-then-f-node c =
    let sound : is_broken c.args.f.now ≡ false =
    sym c.broken.ensures ∙ c.if-broken.false in
    rw (sound, ne_eqb _ _ c.if-f-eq0.false, eq-eqb _ _ c.if-f-node.true, c.requested-then-f-node.ensures)

pub returns : goal.returns
unfolding asked_of
returns c =
    let sound : is_broken c.args.f.now ≡ false =
    sym c.broken.ensures ∙ c.if-broken.false in
    rw (sound, ne_eqb _ _ c.if-f-eq0.false, ne_eqb _ _ c.if-f-node.false)
