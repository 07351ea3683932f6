-- The laws of the analog code, for every format, start, end and result: f is what the paper says (`fraction-is`), the code is within
-- its ends (`code_fits`), before it is held it is the whole number nearest to full scale × f (`rounded-near`), and it is 0 at the start and
-- the full scale at the end (`code-at-start`, `code-at-end`). Paper 01, "Analog value". Assumes nothing.
use Rattle.std.proofs.Common.{arith, lit≤, sym, ap, ◌∙◌}
use Rattle.std.specs.Prelude.{ℕ, zero, suc, ◌+◌, ◌^◌, ◌≤◌, ◌<◌, ℤ, pos, nat_abs, ◌-ℤ◌, ◌*ℤ◌, ◌≤ℤ◌, true, false, cond, ◌≡◌, refl}
use Rattle.std.proofs.Math.IntN.{*ℤ_comm, *ℤ-zero, zero-*ℤ, +ℤ_invr}
use Rattle.std.specs.Int.{int_max, int_min}
use Rattle.std.specs.Int.Signed.{lt_z}
use Rattle.integers.specs.IntLaws.{ints, within, sub_within, eq_of, excl, sub_is, abs_is, lt_z-true, lt_z-false}
use Rattle.integers.specs.Int.{Within}
use Rattle.integers.specs.RingLaws.{var, ◌⊖◌, ◌⊗◌, ring, lt-ex, nlt-ex, le}
use Rattle.integers.specs.ChoiceLaws.{by-test, is_true, is_false}
use Rattle.integers.specs.Round.{round_div}
use Rattle.integers.proofs.RoundLaws.{off, round-near, round_exact, not-above}
use Rattle.integers.specs.Fraction.{Frac}
use Rattle.analog.specs.AnalogCode.{upper_of, lower_of, fraction, full_scale, lowest, held, rounded_of, code_of, CodeFits}

-- ---- the rounding: 2 |lower × z − full scale × upper| ≤ lower

pub rounded-near : (format : ℕ) (f : Frac) → 0 < f.den → off (pos (full_scale format) *ℤ f.num) (pos f.den) (rounded_of format f) ≤ f.den
rounded-near format f h = round-near (pos (full_scale format) *ℤ f.num) (pos f.den) (omega (arith, ints))

-- ---- the fraction

-- the lower number is the distance of start and end, whichever is above
pub lower-mirrored : (start end : ℤ) → lt_z end start ≡ true → start -ℤ end ≡ pos (lower_of start end)
lower-mirrored start end t =
    eq_of (start -ℤ end) (pos (nat_abs (end -ℤ start)))
    (omega (arith, lt_z-true end start t, sub_is start end, sub_is end start, excl (start -ℤ end), excl (end -ℤ start), abs_is (end -ℤ start)))

pub lower-kept : (start end : ℤ) → lt_z end start ≡ false → end -ℤ start ≡ pos (lower_of start end)
lower-kept start end t =
    eq_of (end -ℤ start) (pos (nat_abs (end -ℤ start)))
    (omega (arith, lt_z-false end start t, sub_is end start, excl (end -ℤ start), abs_is (end -ℤ start)))

-- f is (r − start) ÷ (end − start), by cross-multiplying, and its lower number is above zero
pub fraction-is : (start end r : ℤ) → (fraction start end r).num *ℤ (end -ℤ start) ≡ (r -ℤ start) *ℤ pos (fraction start end r).den
fraction-is start end r =
    by-test (lt_z end start) (start -ℤ r) (r -ℤ start) (λ (x : ℤ). x *ℤ (end -ℤ start) ≡ (r -ℤ start) *ℤ pos (lower_of start end))
    (λ t. ring ((var start ⊖ var r) ⊗ (var end ⊖ var start)) ((var r ⊖ var start) ⊗ (var start ⊖ var end)) (omega arith)
    ∙ ap (λ (x : ℤ). (r -ℤ start) *ℤ x) (lower-mirrored start end (is_true (lt_z end start) t)))
    (λ t. ap (λ (x : ℤ). (r -ℤ start) *ℤ x) (lower-kept start end (is_false (lt_z end start) t)))

pub lower-above : (start end : ℤ) → (start ≡ end → ⊥) → 0 < lower_of start end
lower-above start end h = go (lower_of start end) refl
  where
    go : (d : ℕ) → lower_of start end ≡ d → 0 < lower_of start end
    go zero e = absurd (h (eq_of start end (omega (arith, abs_is (end -ℤ start), sub_is end start))))
    go (suc d) e = omega arith

-- f is 0 at the start and 1 at the end
upper-at-start : (start end : ℤ) → upper_of start end start ≡ pos 0
upper-at-start start end =
    by-test (lt_z end start) (start -ℤ start) (start -ℤ start) (λ (x : ℤ). x ≡ pos 0) (λ t. +ℤ_invr start) (λ t. +ℤ_invr start)

upper-at-end : (start end : ℤ) → upper_of start end end ≡ pos (lower_of start end)
upper-at-end start end =
    by-test (lt_z end start) (start -ℤ end) (end -ℤ start) (λ (x : ℤ). x ≡ pos (lower_of start end))
    (λ t. lower-mirrored start end (is_true (lt_z end start) t)) (λ t. lower-kept start end (is_false (lt_z end start) t))

-- the upper number of numbers within A is within 2 A
pub upper-within : {A : ℕ} {start r : ℤ} (end : ℤ) → Within A start → Within A r → Within (A + A) (upper_of start end r)
upper-within {A} {start} {r} end h k =
    by-test (lt_z end start) (start -ℤ r) (r -ℤ start) (Within (A + A)) (λ t. sub_within h k) (λ t. sub_within k h)

-- ---- the ends

-- all formats but 0 have one scale
pub above-zero-scale : (format : ℕ) → (format ≡ 0 → ⊥) → full_scale format ≡ full_scale 1
above-zero-scale zero h = absurd (h refl)
above-zero-scale (suc k) h = refl

pub above-zero-lowest : (format : ℕ) → (format ≡ 0 → ⊥) → lowest format ≡ lowest 1
above-zero-lowest zero h = absurd (h refl)
above-zero-lowest (suc k) h = refl

pub ends-order : (format : ℕ) → lowest format ≤ℤ pos (full_scale format)
ends-order zero = omega (arith, ints)
ends-order (suc k) = omega (arith, ints)

-- a code is at most 2 ^ 24 in size, and so fits 32 bits and the 24 digits of a 32-bit float
pub scale_small : (format : ℕ) → Within (2 ^ 24) (pos (full_scale format))
scale_small zero = record { above = lit≤ tt; below = lit≤ tt }
scale_small (suc k) = record { above = lit≤ tt; below = lit≤ tt }

pub fits-small : (format : ℕ) (code : ℤ) → CodeFits format code → Within (2 ^ 24) code
fits-small zero code h = within (2 ^ 24) code (omega (arith, ints)) (omega (arith, ints))
fits-small (suc k) code h = within (2 ^ 24) code (omega (arith, ints)) (omega (arith, ints))

-- ---- the hold

-- std's `clamp`
pub held-clamp : (lo hi z : ℤ) → lo ≤ℤ hi → int_max lo (int_min z hi) ≡ held lo hi z
unfolding held
held-clamp lo hi z h = grind (arith, ints)

pub held_low : (lo hi z : ℤ) → lo ≤ℤ hi → lo ≤ℤ held lo hi z
unfolding held
held_low lo hi z h =
    by-test (lt_z z lo) lo (cond (lt_z hi z) hi z) (λ (x : ℤ). lo ≤ℤ x) (λ t. omega (arith, ints))
    (λ t. by-test (lt_z hi z) hi z (λ (x : ℤ). lo ≤ℤ x) (λ u. h) (λ u. le (var lo) (var z) (nlt-ex (var z) (var lo) t)))

pub held_high : (lo hi z : ℤ) → lo ≤ℤ hi → held lo hi z ≤ℤ hi
unfolding held
held_high lo hi z h =
    by-test (lt_z z lo) lo (cond (lt_z hi z) hi z) (λ (x : ℤ). x ≤ℤ hi) (λ t. h)
    (λ t. by-test (lt_z hi z) hi z (λ (x : ℤ). x ≤ℤ hi) (λ u. omega (arith, ints)) (λ u. le (var z) (var hi) (nlt-ex (var hi) (var z) u)))

pub held_kept : (lo hi z : ℤ) → lo ≤ℤ z → z ≤ℤ hi → held lo hi z ≡ z
unfolding held
held_kept lo hi z h k =
    by-test (lt_z z lo) lo (cond (lt_z hi z) hi z) (λ (x : ℤ). x ≡ z) (λ t. let u = lt-ex (var z) (var lo) t in absurd (omega (arith, ints)))
    (λ t. by-test (lt_z hi z) hi z (λ (x : ℤ). x ≡ z) (λ u. let v = lt-ex (var hi) (var z) u in absurd (omega (arith, ints))) (λ u. refl))

-- ---- the code

-- "held to ±32,767", "held to 0..65,535"
pub code_fits : (format : ℕ) (start end r : ℤ) → CodeFits format (code_of format start end r)
unfolding code_of
code_fits format start end r =
    let z = rounded_of format (fraction start end r) in
    record {
      low = held_low (lowest format) (pos (full_scale format)) z (ends-order format);
      high = held_high (lowest format) (pos (full_scale format)) z (ends-order format);
    }

-- a whole multiple of the lower number is not rounded; where that is 0 the number is 0
round-multiple : (n d : ℕ) → (d ≡ 0 → n ≡ 0) → round_div (pos n *ℤ pos d) (pos d) ≡ pos n
round-multiple n zero h = rw (h refl) (sym (not-above (pos 0) (pos 0) (lit≤ tt)))
round-multiple n (suc d) h = rw (*ℤ_comm (pos n) (pos (suc d))) (sym (round_exact (pos (suc d)) (pos n) (omega (arith, ints))))

code_at : (format n : ℕ) (start end r : ℤ) → CodeFits format (pos n) → rounded_of format (fraction start end r) ≡ pos n → code_of format start end r ≡ pos n
unfolding code_of
code_at format n start end r h e = rw e (held_kept (lowest format) (pos (full_scale format)) (pos n) h.low h.high)

zero-fits : (format : ℕ) → CodeFits format (pos 0)
zero-fits zero = record { low = omega (arith, ints); high = omega (arith, ints) }
zero-fits (suc k) = record { low = omega (arith, ints); high = omega (arith, ints) }

-- the start gives 0, also where it is above the end
pub code-at-start : (format : ℕ) (start end : ℤ) → code_of format start end start ≡ pos 0
code-at-start format start end =
    let full = pos (full_scale format) in
    let d = lower_of start end in
    code_at format 0 start end start (zero-fits format)
    (ap (λ (x : ℤ). round_div (full *ℤ x) (pos d)) (upper-at-start start end)
    ∙ ap (λ (x : ℤ). round_div x (pos d)) (*ℤ-zero full ∙ sym (zero-*ℤ (pos d)))
    ∙ round-multiple 0 d (λ e. refl))

-- the end gives the full scale, also where it is below the start
pub code-at-end : (format : ℕ) (start end : ℤ) → (start ≡ end → ⊥) → code_of format start end end ≡ pos (full_scale format)
code-at-end format start end h =
    let full = full_scale format in
    let d = lower_of start end in
    code_at format full start end end (record { low = ends-order format; high = omega (arith, ints) })
    (ap (λ (x : ℤ). round_div (pos full *ℤ x) (pos d)) (upper-at-end start end)
    ∙ round-multiple full d (λ e. absurd (omega (arith, lower-above start end h))))
