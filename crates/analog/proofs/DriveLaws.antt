-- The laws of the drive, for every format and every code within its ends: no float step rounds (`unrounded`), a drive is worth the paper's
-- fraction (`drive-worth`), and drives of one format are ordered and told apart as their codes are (`drive-order`, `equal-codes`,
-- `equal-worth`, `equal-drives`). Paper 01, "Analog value". Assumes nothing.
use Rattle.std.specs.Prelude.{◌≡◌, refl, ℕ, zero, suc, ◌*◌, ◌^◌, ◌≤◌, ◌<◌, false, ℤ, pos, nat_abs, ◌+ℤ◌, ◌*ℤ◌, Float}
use Rattle.std.proofs.Common.{sym, ap, ◌∙◌, subst, arith, lit<, lit≤}
use Rattle.std.proofs.Math.IntN.{+ℤ_idr}
use Rattle.std.specs.Int.Signed.{lt_z}
use Rattle.std.specs.Float.{binary32}
use Rattle.std.specs.Float.Ieee.{of_int, lt}
use Rattle.std.specs.Float.Ieee.Exact.{HasValue}
use Rattle.integers.specs.IntLaws.{ints, abs_is, excl}
use Rattle.analog.specs.declared.Drive.{Drive}
use Rattle.analog.specs.declared.Drive.TheVariants.{Off}
use Rattle.integers.specs.Fraction.{Same}
use Rattle.analog.specs.FloatValue.{Is, value_of}
use Rattle.analog.specs.AnalogCode.{code_of, CodeFits}
use Rattle.analog.proofs.CodeLaws.{code_fits, code-at-start}
use Rattle.analog.specs.Drives.{factor, divisor, offset, analog_value, float, quotient_of, float_of, Unrounded, drive_of, CodeDrive, drive_value}
use Rattle.analog.specs.ExactLaws.{int-exact, cast_is, product_is, quotient_is, sum_is}
use Rattle.analog.specs.FloatLaws.{is_same, lt-is, scaled-order, scaled-equal, same-trans, same-sym, same_refl}

-- ---- no step rounds

-- a format's steps, for a divisor 2 ^ t, once the last step is given
steps : (format t : ℕ) (code : ℤ)
    → divisor format ≡ 2 ^ t → t ≤ 149 → 0 < factor format → factor format < 2 ^ 24 → divisor format < 2 ^ 24 → nat_abs code * factor format < 2 ^ 24
    → (Is (quotient_of format code) (code *ℤ pos (factor format)) (divisor format) → Is (float_of format code) (analog_value format code).num (divisor format))
    → Unrounded format code
steps format t code e reach above k d small last =
    let y = float (pos (factor format)) in
    let w = float (pos (divisor format)) in
    let Y : HasValue y false (factor format) 1 = int-exact binary32 (pos (factor format)) k in
    let W : HasValue w false (2 ^ t) 1 = subst (λ (n : ℕ). HasValue w false n 1) e (int-exact binary32 (pos (divisor format)) d) in
    let q : Is (quotient_of format code) (code *ℤ pos (factor format)) (divisor format) =
    subst (Is (quotient_of format code) (code *ℤ pos (factor format))) (sym e) (quotient_is binary32 (factor format) t y w above Y W reach code small) in
    record {
      cast = cast_is binary32 (factor format) t y w above Y W reach code small;
      product = product_is binary32 (factor format) t y w above Y W reach code small;
      quotient = q;
      result = last q;
    }

no-offset : (x : Float) (z : ℤ) (c : ℕ) → Is x z c → Is x (z +ℤ pos 0) c
no-offset x z c h = subst (λ (y : ℤ). Is x y c) (sym (+ℤ_idr z)) h

-- "None of these float steps rounds"
pub unrounded : (format : ℕ) (code : ℤ) → CodeFits format code → Unrounded format code
unfolding float_of of_int
unrounded zero code h =
    steps 0 15 code refl (lit≤ tt) (lit< tt) (lit< tt) (lit< tt) (omega (arith, ints, abs_is code, excl code)) (no-offset _ (code *ℤ pos 10) 32768)
unrounded (suc zero) code h =
    steps 1 16 code refl (lit≤ tt) (lit< tt) (lit< tt) (lit< tt) (omega (arith, ints, abs_is code, excl code)) (no-offset _ (code *ℤ pos 20) 65536)
unrounded (suc (suc k)) code h =
    steps (suc (suc k)) 16 code refl (lit≤ tt) (lit< tt) (lit< tt) (lit< tt) (omega (arith, ints, abs_is code, excl code))
    (λ q. sum_is binary32 _ (float (pos 4)) code 16 262144 16 h.low q (refl, refl) (lit≤ tt) (omega (arith, ints, abs_is code, excl code)))

-- ---- what a drive is worth

divisor-above : (format : ℕ) → 0 < divisor format
divisor-above zero = lit< tt
divisor-above (suc k) = lit< tt

factor-above : (format : ℕ) → 0 < factor format
factor-above zero = lit< tt
factor-above (suc zero) = lit< tt
factor-above (suc (suc k)) = lit< tt

-- the float's value is what a drive of it is worth
drive-float : (format : ℕ) (code : ℤ) → drive_value (drive_of format code) ≡ value_of (float_of format code)
unfolding drive_of
drive-float zero code = refl
drive-float (suc k) code = refl

-- "code × 10 ÷ 32,768; code × 20 ÷ 65,536; code × 16 ÷ 65,536 + 4": a drive is worth exactly that
pub drive-worth : (format : ℕ) (code : ℤ) → CodeFits format code → Same (drive_value (drive_of format code)) (analog_value format code)
drive-worth format code h =
    rw drive-float (is_same (float_of format code) (analog_value format code).num (divisor format) (divisor-above format) (unrounded format code h).result)

-- and so, for every result, is the drive of the result's code
pub drive-for-worth : (format : ℕ) (start end r : ℤ) → Same (drive_value (drive_of format (code_of format start end r))) (analog_value format (code_of format start end r))
drive-for-worth format start end r = drive-worth format (code_of format start end r) (code_fits format start end r)

-- ---- a format above 2 counts as 2

pub from-two-fits : (format : ℕ) (code : ℤ) → (format ≡ 0 → ⊥) → (format ≡ 1 → ⊥) → CodeFits format code → CodeFits 2 code
from-two-fits zero code h k f = absurd (h refl)
from-two-fits (suc zero) code h k f = absurd (k refl)
from-two-fits (suc (suc n)) code h k f = record { low = f.low; high = f.high }

pub from-two-drive : (format : ℕ) (code : ℤ) → (format ≡ 0 → ⊥) → (format ≡ 1 → ⊥) → drive_of 2 code ≡ drive_of format code
unfolding drive_of float_of
from-two-drive zero code h k = absurd (h refl)
from-two-drive (suc zero) code h k = absurd (k refl)
from-two-drive (suc (suc n)) code h k = refl

-- ---- drives of one format

-- equal codes give equal drives
pub equal-codes : (format : ℕ) (a b : ℤ) → a ≡ b → drive_of format a ≡ drive_of format b
equal-codes format a b e = ap (drive_of format) e

-- they compare as their codes do
pub drive-order : (format : ℕ) (a b : ℤ) → CodeFits format a → CodeFits format b → lt (float_of format a) (float_of format b) ≡ lt_z a b
drive-order format a b h k =
    lt-is (float_of format a) (float_of format b) (analog_value format a).num (analog_value format b).num (divisor format) (divisor-above format)
    (unrounded format a h).result (unrounded format b k).result
    ∙ scaled-order (factor format) (offset format * divisor format) a b (factor-above format)

-- drives that are worth the same have equal codes
pub equal-worth : (format : ℕ) (a b : ℤ) → CodeFits format a → CodeFits format b → Same (drive_value (drive_of format a)) (drive_value (drive_of format b)) → a ≡ b
equal-worth format a b h k s =
    let u = analog_value format a in
    let v = analog_value format b in
    let x = drive_value (drive_of format a) in
    let y = drive_value (drive_of format b) in
    scaled-equal (factor format) (offset format * divisor format) (divisor format) a b (factor-above format)
    (same-trans u x v (same-sym x u (drive-worth format a h)) (same-trans x y v s (drive-worth format b k)))

-- and so equal drives have equal codes
pub equal-drives : (format : ℕ) (a b : ℤ) → CodeFits format a → CodeFits format b → drive_of format a ≡ drive_of format b → a ≡ b
equal-drives format a b h k e =
    let x = drive_value (drive_of format a) in
    equal-worth format a b h k (subst (λ (d : Drive). Same x (drive_value d)) e (same_refl x (drive-worth format a h).0))

-- ---- the drive before the first telegram

pub off-drive : (format : ℕ) → CodeDrive format (pos 0) Off
off-drive format = record { on = false; is = refl; fits = subst (CodeFits format) (code-at-start format (pos 0) (pos 0)) (code_fits format (pos 0) (pos 0) (pos 0)) }
