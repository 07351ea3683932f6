-- A frame that is not broken is whole: 4 to 256 bytes, the length of its function, and a right CRC.
use Rattle.std.specs.Prelude.{◌≡◌, refl, Bool, true, false, not, ◌||◌, List, ℕ, ◌+◌, ◌≤◌, ◌<◌, eqb, ltb, length}
use Rattle.std.proofs.Common.{true≢false, arith, lt-ltb, le-ltb, ltb-false, eqb-true, eq-eqb, ne_eqb}
use Rattle.std.proofs.lemmas.Bool.{not-false}
use Rattle.integers.specs.TestLaws.{or-both}
use Rattle.modbus.specs.Request.{function_in, quantity_in, count_in, read_function, write_function, is_read, is_write, most_bytes, is_misfit, crc_right, is_broken, is_unknown, wrong_amount}

pub record Whole (f : List ℕ) : Type 0 where
  pub least : 4 ≤ length f
  pub most : length f ≤ most_bytes
  pub read : function_in f ≡ read_function → length f ≡ 8
  pub write : function_in f ≡ write_function → length f ≡ 9 + count_in f
  pub crc : crc_right f ≡ true

-- the length of each function
fitting : (f : List ℕ) → is_misfit f ≡ false → (function_in f ≡ read_function → length f ≡ 8) × (function_in f ≡ write_function → length f ≡ 9 + count_in f)
unfolding is_misfit
fitting f e = (read, write)
  where
    read : function_in f ≡ read_function → length f ≡ 8
    read k =
        let n : not (eqb (length f) 8) ≡ false = rw (eq-eqb (function_in f) read_function k) at e in
        eqb-true (length f) 8 (not-false (eqb (length f) 8) n)

    write : function_in f ≡ write_function → length f ≡ 9 + count_in f
    write k =
        let ne : function_in f ≡ read_function → ⊥ = λ j. omega arith in
        let n : (ltb (length f) 9 || not (eqb (length f) (9 + count_in f))) ≡ false = rw (ne_eqb (function_in f) read_function ne, eq-eqb (function_in f) write_function k) at e in
        eqb-true (length f) (9 + count_in f) (not-false (eqb (length f) (9 + count_in f)) (or-both (ltb (length f) 9) _ n).1)

pub whole : (f : List ℕ) → is_broken f ≡ false → Whole f
unfolding is_broken
whole f e =
    let a = or-both (ltb (length f) 4 || ltb most_bytes (length f) || is_misfit f) (not (crc_right f)) e in
    let b = or-both (ltb (length f) 4 || ltb most_bytes (length f)) (is_misfit f) a.0 in
    let d = or-both (ltb (length f) 4) (ltb most_bytes (length f)) b.0 in
    record {
      least = ltb-false (length f) 4 d.0;
      most = ltb-false most_bytes (length f) d.1;
      read = (fitting f b.1).0;
      write = (fitting f b.1).1;
      crc = not-false (crc_right f) a.1;
    }

-- "under 4 or over 256 bytes"
pub short-broken : (f : List ℕ) → length f < 4 → is_broken f ≡ true
unfolding is_broken
short-broken f h = rw (lt-ltb (length f) 4 h)

pub long-broken : (f : List ℕ) → most_bytes < length f → is_broken f ≡ true
unfolding is_broken
long-broken f h = rw (le-ltb (length f) 4 (omega arith), lt-ltb most_bytes (length f) h)

-- a known function has 8 bytes at least
pub known-long : (f : List ℕ) → Whole f → is_unknown f ≡ false → 8 ≤ length f
unfolding is_unknown
known-long f w e = by (is_read f) (is_write f) refl refl
  where
    by : (a b : Bool) → is_read f ≡ a → is_write f ≡ b → 8 ≤ length f
    by true b p q = omega (arith, w.read (eqb-true (function_in f) read_function p))
    by false true p q = omega (arith, w.write (eqb-true (function_in f) write_function q), w.least)
    by false false p q = absurd (true≢false (rw (p, q) at e))

-- a write of four data bytes has 13
pub write-long : (f : List ℕ) → Whole f → function_in f ≡ write_function → wrong_amount f ≡ false → length f ≡ 13
unfolding wrong_amount
write-long f w k e =
    let n : not (eqb (count_in f) 4) ≡ false = rw (eq-eqb (function_in f) write_function k) at (or-both (not (eqb (quantity_in f) 2)) _ e).1 in
    omega (arith, w.write k, eqb-true (count_in f) 4 (not-false (eqb (count_in f) 4) n))
