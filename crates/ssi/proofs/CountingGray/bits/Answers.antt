-- `ssi::Counting::bits` meets its contract. The invariant: p is the position without its k low bits, and each turn adds the next one.
use Prim.Native.Nat.{ℕ, ◌+◌, ◌-◌, ◌*◌, ◌/◌, ◌%◌, ◌^◌, ◌≤◌}
use mathlib.Core.Path.{◌≡◌, sym, ◌∙◌}
use native.Mathlib.Omega.{arith}
use native.Mathlib.Nat.{div-one, div-eq_of_lt}
use lib.Bits.{bit_and, and_mask}
use lib.Count.{ones}
use Rattle.ssi.specs.Telegram.{gray_decoded}
use Rattle.ssi.proofs.GrayLaws.{decoded-next, decoded-lt, decoded-fits}
use Rattle.ssi.proofs.CountingGray.bits.Goals as goal

-- one more bit, where m masks the telegram
turn : (n k t m p : ℕ) → 1 ≤ k → k ≤ n → m ≡ 2 ^ n - 1 → p ≡ gray_decoded n n t / 2 ^ k → 2 * p + ones (bit_and t m / 2 ^ (k - 1)) % 2 ≡ gray_decoded n n t / 2 ^ (k - 1)
turn n k t m p a b e f = rw (f, e, and_mask t n) (decoded-next n k t (omega arith) (omega arith))

pub loop-k-init : goal.loop-k-init
loop-k-init c = sym (div-eq_of_lt (decoded-lt _ _))

pub overflow_mul-p : goal.overflow_mul-p
overflow_mul-p c =
    let l = c.loop-k in
    let next = turn c.args.n l.k c.args.t _ l.p (omega arith) (omega arith) c.mask.ensures l.invariant in
    omega (arith, next, decoded-fits _ (2 ^ (l.k - 1)) c.args.t c.requires.1)

pub overflow_add-p : goal.overflow_add-p
overflow_add-p c =
    let l = c.loop-k in
    let next = turn c.args.n l.k c.args.t _ l.p (omega arith) (omega arith) c.mask.ensures l.invariant in
    omega (arith, next, decoded-fits _ (2 ^ (l.k - 1)) c.args.t c.requires.1)

pub loop-k-preserved : goal.loop-k-preserved
loop-k-preserved c =
    let l = c.loop-k in
    turn c.args.n l.k c.args.t _ l.p (omega arith) (omega arith) c.mask.ensures l.invariant

pub returns : goal.returns
returns c = let l = c.loop-k in
    let z : l.k ≡ 0 = omega arith in
    l.invariant ∙ rw z (div-one _)
