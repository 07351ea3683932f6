-- `ssi::build` meets its contract: a position above the mask is M or more, and each test answers for one refusal.
use mathlib.Core.Path.{◌≡◌, sym, ap, ◌∙◌}
use Prim.Native.Nat.{ℕ, suc, ◌-◌, ◌^◌, ◌≤◌, ◌<◌}
use native.Mathlib.Omega.{arith}
use borrow.Author.Tests.{le-leb, lt-leb}
use lib.Pow.{suc_ones}
use Rattle.ssi.specs.declared.Layout.{Layout}
use Rattle.ssi.specs.Telegram.{width_of, modulus}
use Rattle.ssi.specs.Builder.{built_of}
use Rattle.ssi.proofs.build.Goals as goal

-- M is one above the mask
above-mask : (l : Layout) (w m : ℕ) → w ≡ width_of l → m ≡ 2 ^ w - 1 → suc m ≡ modulus l
above-mask l w m e f = ap suc f ∙ suc_ones w ∙ ap (λ (x : ℕ). 2 ^ x) e

pub returns-then-mask-position : goal.returns-then-mask-position
unfolding built_of
returns-then-mask-position c =
    let too-big : modulus c.args.l ≤ c.args.position = omega (arith, above-mask c.args.l _ _ c.width.ensures c.mask.ensures, c.if-mask-position.true) in
    rw (c.refuse.ensures, le-leb _ _ too-big)

pub returns-then-lacks_error_bit : goal.returns-then-lacks_error_bit
unfolding built_of
returns-then-lacks_error_bit c =
    let small : c.args.position < modulus c.args.l = omega (arith, above-mask c.args.l _ _ c.width.ensures c.mask.ensures, c.if-mask-position.false) in
    rw (c.refuse-then-lacks_error_bit.ensures, lt-leb _ _ small, sym c.lacks_error_bit.ensures ∙ c.if-lacks_error_bit.true)

pub telegram-requires : goal.telegram-requires
telegram-requires c =
    let small : c.args.position < modulus c.args.l = omega (arith, above-mask c.args.l _ _ c.width.ensures c.mask.ensures, c.if-mask-position.false) in
    (c.requires, small)

pub returns : goal.returns
unfolding built_of
returns c =
    let small : c.args.position < modulus c.args.l = omega (arith, above-mask c.args.l _ _ c.width.ensures c.mask.ensures, c.if-mask-position.false) in
    rw (c.telegram.ensures, lt-leb _ _ small, sym c.lacks_error_bit.ensures ∙ c.if-lacks_error_bit.false)
