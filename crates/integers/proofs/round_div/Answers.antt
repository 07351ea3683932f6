-- `integers::round_div` meets its contract: each way out gives the quotient, or one more or less, by the laws `quot-..`, and the mark by those of the remainder.
-- n, d, r and q are the numbers as the code reads them back from the locals' bits.
use mathlib.Core.Path.{◌≡◌, refl, sym, ap, ◌∙◌}
use mathlib.Core.Bool.{Bool, true, false}
use Prim.Native.Nat.{ℕ, ◌<◌, ◌≤◌, ◌+◌, ◌*◌}
use native.Mathlib.Omega.{arith}
use borrow.Author.Tests.{eqb-true, eqb-false, eq-eqb, ne_eqb}
use lib.Dec.{eqb}
use lib.IntN.{ℤ, pos, ◌-ℤ◌, ◌+ℤ◌}
use lib.Signed.{quot_z, rem_z}
use mir.Syntax.{w64}
use mir.Val.{SFits, of_z}
use mir.Facts.{to_z-of_z}
use Rattle.integers.specs.Int.{P, N}
use Rattle.integers.specs.IntLaws.{ints, fit, again, bk, div-ok, rem-fits, quot_fits, same_bits, Division, division, sub_is, add_is}
use Rattle.integers.specs.Round.{round_div, halved, rounding}
use Rattle.integers.proofs.RoundLaws.{quot-up, quot-keep, quot-down, not-above}
use Rattle.integers.proofs.HalfLaws.{half-rest, no-divisor}
use Rattle.integers.specs.declared.Rounded.{Rounded}
use Rattle.integers.proofs.round_div.Goals as goal
use Rattle.integers.proofs.round_div.Lts as lts
use Rattle.integers.proofs.round_div.Reads as reads

abbrev Start : Type 0
Start = lts.Start reads.Pre reads.Post

abbrev n : Start → ℤ
n s = bk w64 s.args.n

abbrev d : Start → ℤ
d s = bk w64 s.args.d

abbrev r : Start → ℤ
r s = rem_z (n s) (d s)

-- a value and a mark that are right are the rounding
both : (s : Start) (v : ℤ) (h : Bool) → v ≡ round_div (n s) (d s) → h ≡ halved (n s) (d s) → ◌≡◌ {A = Rounded} (record { value = v; half = h }) (rounding s.args.n s.args.d)
unfolding rounding
both s v h e f =
    let x = rw (to_z-of_z s.ranges.n, to_z-of_z s.ranges.d) at e in
    let y = rw (to_z-of_z s.ranges.n, to_z-of_z s.ranges.d) at f in
    rw (x, y)

-- two words are compared by their bits
marked : (a b : ℤ) (x y : ℕ) → SFits w64 a → SFits w64 b → (a ≡ b → x ≡ y) → (x ≡ y → a ≡ b) → eqb (of_z w64 a) (of_z w64 b) ≡ eqb x y
marked a b x y fa fb to from = go (eqb x y) refl
  where
    go : (h : Bool) → eqb x y ≡ h → eqb (of_z w64 a) (of_z w64 b) ≡ h
    go true e = eq-eqb _ _ (ap (of_z w64) (from (eqb-true x y e)))
    go false e = ne_eqb _ _ (λ z. eqb-false x y e (to (same_bits fa fb z)))

pub returns-then-d-le0 : goal.returns-then-d-le0
returns-then-d-le0 c =
    let s = c.before in
    let l : P (d s) ≤ N (d s) = omega (arith, ints, fit s.ranges.d) in
    both s _ _ (not-above (n s) (d s) l) (sym (no-divisor (n s) (d s) l))

d-above : (c : goal.Else-d-le0) → N (d c.before) < P (d c.before)
d-above c = omega (arith, ints)

pub nonzero_div-q : goal.nonzero_div-q
nonzero_div-q c = let f = c.ranges in div-ok f.n f.d (omega (arith, ints, fit f.d))

pub nonzero_rem-r : goal.nonzero_rem-r
nonzero_rem-r c = nonzero_div-q c

r-fits : (s : Start) → SFits w64 (r s)
r-fits s = rem-fits (d s) (again s.ranges.n)

qr : (c : goal.Else-d-le0) → Division (n c.before) (d c.before)
qr c = division (n c.before) (d c.before) (d-above c)

-- the quotient that stays, where twice the remainder is below the divisor
q-kept : (s : Start) → N (d s) < P (d s) → 2 * P (r s) < P (d s) → 2 * N (r s) < P (d s) → bk w64 (quot_z (n s) (d s)) ≡ round_div (n s) (d s)
q-kept s h u l = rw (to_z-of_z (quot_fits (d s) (again s.ranges.n) h)) (quot-keep (n s) (d s) h u l)

-- ---- r not negative
pub overflow_sub-left : goal.overflow_sub-left
overflow_sub-left c = let s = c.before.before in omega (arith, ints, fit s.ranges.d, fit (r-fits s), qr c.before)

-- r is what is left up to the divisor exactly where twice r is the divisor
half_up : (c : goal.Then-r-ge0) → let s = c.before.before in eqb (of_z w64 (r s)) (of_z w64 (d s -ℤ bk w64 (r s))) ≡ halved (n s) (d s)
half_up c =
    let s = c.before.before in
    let x = qr c.before in
    let f = fit (r-fits s) in
    let k = sub_is (d s) (bk w64 (r s)) in
    marked (r s) (d s -ℤ bk w64 (r s)) (2 * (P (r s) + N (r s))) (P (d s)) (r-fits s) (overflow_sub-left c) (λ e. omega (arith, ints)) (λ e. omega (arith, ints))
    ∙ sym (half-rest (n s) (d s) (d-above c.before))

up : (c : goal.Then-r-left) → P (d c.before.before.before) ≤ 2 * P (r c.before.before.before)
up c =
    let s = c.before.before.before in
    omega (arith, ints, fit (r-fits s), fit (overflow_sub-left c.before), sub_is (d s) (bk w64 (r s)), qr c.before.before)

pub overflow_add-value : goal.overflow_add-value
overflow_add-value c = omega (arith, ints, fit c.ranges.n, up c, fit (nonzero_div-q c.before.before).1, qr c.before.before)

pub returns-then-r-left : goal.returns-then-r-left
returns-then-r-left c =
    let s = c.before.before.before in
    let e = quot-up (n s) (d s) (d-above c.before.before) (up c) in
    both s _ _ (rw (to_z-of_z (overflow_add-value c), to_z-of_z (nonzero_div-q c.before.before).1) e) (half_up c.before)

pub returns-then-r-ge0 : goal.returns-then-r-ge0
returns-then-r-ge0 c =
    let s = c.before.before.before in
    let x = qr c.before.before in
    let f = fit (r-fits s) in
    let k = sub_is (d s) (bk w64 (r s)) in
    let l : 2 * P (r s) < P (d s) = omega (arith, ints, fit (overflow_sub-left c.before)) in
    both s _ _ (q-kept s (d-above c.before.before) l (omega (arith, ints))) (half_up c.before)

-- ---- r negative
pub overflow_add-left : goal.overflow_add-left
overflow_add-left c = let s = c.before.before in omega (arith, ints, fit s.ranges.d, fit (r-fits s), qr c.before)

pub overflow_sub-over : goal.overflow_sub-over
overflow_sub-over c = omega (arith, ints, fit (r-fits c.before.before), qr c.before)

-- r is below 0 by what is left up to the divisor exactly where twice its size is the divisor
half_down : (c : goal.Else-r-ge0) → let s = c.before.before in eqb (of_z w64 (d s +ℤ bk w64 (r s))) (of_z w64 (pos 0 -ℤ bk w64 (r s))) ≡ halved (n s) (d s)
half_down c =
    let s = c.before.before in
    let x = qr c.before in
    let f = fit (r-fits s) in
    let k = add_is (d s) (bk w64 (r s)) in
    let g = sub_is (pos 0) (bk w64 (r s)) in
    marked (d s +ℤ bk w64 (r s)) (pos 0 -ℤ bk w64 (r s)) (2 * (P (r s) + N (r s))) (P (d s)) (overflow_add-left c) (overflow_sub-over c) (λ e. omega (arith, ints)) (λ e. omega (arith, ints))
    ∙ sym (half-rest (n s) (d s) (d-above c.before))

down : (c : goal.Then-left-over) → P (d c.before.before.before) ≤ 2 * N (r c.before.before.before)
down c =
    let s = c.before.before.before in
    omega (arith, ints, fit (r-fits s), fit (overflow_add-left c.before), fit (overflow_sub-over c.before), add_is (d s) (bk w64 (r s)), sub_is (pos 0) (bk w64 (r s)), qr c.before.before)

pub overflow_sub-value : goal.overflow_sub-value
overflow_sub-value c = omega (arith, ints, down c, fit (nonzero_div-q c.before.before).1, qr c.before.before)

pub returns-then-left-over : goal.returns-then-left-over
returns-then-left-over c =
    let s = c.before.before.before in
    let e = quot-down (n s) (d s) (d-above c.before.before) (down c) in
    both s _ _ (rw (to_z-of_z (overflow_sub-value c), to_z-of_z (nonzero_div-q c.before.before).1) e) (half_down c.before)

pub returns : goal.returns
returns c =
    let s = c.before.before.before in
    let x = qr c.before.before in
    let f = fit (r-fits s) in
    let k = add_is (d s) (bk w64 (r s)) in
    let g = sub_is (pos 0) (bk w64 (r s)) in
    let l : 2 * N (r s) < P (d s) = omega (arith, ints, fit (overflow_add-left c.before), fit (overflow_sub-over c.before)) in
    both s _ _ (q-kept s (d-above c.before.before) (omega (arith, ints)) l) (half_down c.before)
