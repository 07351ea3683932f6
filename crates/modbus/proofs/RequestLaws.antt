-- What is asked lies in the map; and a frame that is not broken is broken once a single byte of it is changed.
use Rattle.std.specs.Prelude.{◌≡◌, refl, Bool, true, false, cond, not, Option, None, Some, List, [], ◌∷◌, ◌++◌, ℕ, zero, suc, ◌-◌, ◌*◌, ◌/◌, ◌%◌, ◌≤◌, ◌<◌, eqb, ltb, leb, ℤ, length, get_or, take, drop, set}
use Rattle.std.proofs.Common.{sym, ap, ap₂, ◌∙◌, arith, ltb-true, eqb-true, lit<, take-append-drop, drop_of_length-le, drop-cons}
use Rattle.std.proofs.lemmas.Bool.{false≢true, not-false}
use Rattle.integers.specs.TestLaws.{or-both, and_both}
use Rattle.modbus.specs.Crc.{crc_start, crc_of, crc_bytes}
use Rattle.modbus.proofs.CrcLaws.{Bytes, crc-append, own-crc, one_byte}
use Rattle.modbus.specs.Words.{number}
use Rattle.modbus.specs.Request.{frame_number, is_write, crc_right, is_broken, slot_count, shown_register, is_slot_start, is_mapped, is_unknown, wrong_amount, wrong_start, start_in, value_in, exception, request_in}
use Rattle.modbus.proofs.WholeLaws.{whole}
use Rattle.modbus.specs.declared.Refusal.{Refusal}
use Rattle.modbus.specs.declared.Refusal.TheVariants.{BrokenFrame}
use Rattle.modbus.specs.declared.Exception.TheVariants.{Function, Address, Value}
use Rattle.modbus.specs.declared.Request.{Request}
use Rattle.modbus.specs.declared.Request.TheVariants.{Broken, Ignored, Exception, Read, Write}

-- ---- what is asked lies in the map
abbrev pub InMap : ℕ → Type 0
InMap r = (r < 2 * slot_count) × (r % 2 ≡ 0)

slot-start : (r : ℕ) → is_mapped r ≡ true → eqb r shown_register ≡ false → InMap r
unfolding is_mapped
slot-start r e n =
    let s : is_slot_start r ≡ true = rw n at e in
    let b = and_both (ltb r (2 * slot_count)) (eqb (r % 2) 0) s in
    (ltb-true r (2 * slot_count) b.0, eqb-true (r % 2) 0 b.1)

start-mapped : (f : List ℕ) → wrong_start f ≡ false → is_mapped (start_in f) ≡ true
unfolding wrong_start
start-mapped f e = not-false (is_mapped (start_in f)) (or-both (not (is_mapped (start_in f))) _ e).0

write-mapped-to : (f : List ℕ) → wrong_start f ≡ false → is_write f ≡ true → InMap (start_in f)
unfolding wrong_start
write-mapped-to f e w = slot-start (start_in f) (start-mapped f e) (rw w at (or-both (not (is_mapped (start_in f))) _ e).1)

-- a read or a write
abbrev is_done : Request → Bool
is_done Broken = false
is_done Ignored = false
is_done (Exception function reason) = false
is_done (Read r) = true
is_done (Write r z) = true

abbrev done : List ℕ → Request
done f = cond (is_write f) (Write (start_in f) (value_in f)) (Read (start_in f))

-- it passed the three tests
passed : (f : List ℕ) → is_done (request_in f) ≡ true → (wrong_start f ≡ false) × (request_in f ≡ done f)
unfolding request_in
passed f e = by (is_unknown f) (wrong_amount f) (wrong_start f) refl e
  where
    by : (u a s : Bool) → wrong_start f ≡ s → is_done (cond u (exception f Function) (cond a (exception f Value) (cond s (exception f Address) (done f)))) ≡ true
        → (s ≡ false) × (cond u (exception f Function) (cond a (exception f Value) (cond s (exception f Address) (done f))) ≡ done f)
    by true a s p k = absurd (false≢true k)
    by false true s p k = absurd (false≢true k)
    by false false true p k = absurd (false≢true k)
    by false false false p k = (refl, refl)

pub read_mapped : (f : List ℕ) (r : ℕ) → request_in f ≡ Read r → is_mapped r ≡ true
read_mapped f r e = by (is_write f) (sym p.1 ∙ e)
  where
    p : (wrong_start f ≡ false) × (request_in f ≡ done f)
    p = passed f (ap is_done e)

    by : (w : Bool) → cond w (Write (start_in f) (value_in f)) (Read (start_in f)) ≡ Read r → is_mapped r ≡ true
    by true k = let z : ◌≡◌ {A = ℕ} 0 1 = cc in absurd (omega arith)
    by false k =
        let s : start_in f ≡ r = cc in
        rw s at (start-mapped f p.0)

pub write-mapped : (f : List ℕ) (r : ℕ) (z : ℤ) → request_in f ≡ Write r z → InMap r
write-mapped f r z e = by (is_write f) refl (sym p.1 ∙ e)
  where
    p : (wrong_start f ≡ false) × (request_in f ≡ done f)
    p = passed f (ap is_done e)

    by : (w : Bool) → is_write f ≡ w → cond w (Write (start_in f) (value_in f)) (Read (start_in f)) ≡ Write r z → InMap r
    by true q k =
        let s : start_in f ≡ r = cc in
        rw s at (write-mapped-to f p.0 q)
    by false q k = let z : ◌≡◌ {A = ℕ} 0 1 = cc in absurd (omega arith)

-- ---- only a frame that is not refused has the number 0
pub told : (r : Option Refusal) → frame_number r ≡ 0 → r ≡ None
told None e = refl
told (Some BrokenFrame) e = absurd (omega arith)

-- ---- one byte changed
-- the last two bytes of a list
last-two : (f : List ℕ) → 2 ≤ length f → f ≡ take (length f - 2) f ++ (get_or f (length f - 2) 0 ∷ (get_or f (length f - 1) 0 ∷ []))
last-two f h =
    let n = length f - 2 in
    let e : suc n ≡ length f - 1 = omega arith in
    let k : length f ≤ suc (length f - 1) = omega arith in
    sym (take-append-drop n f)
    ∙ ap (λ (l : List ℕ). take n f ++ l)
    (drop-cons f n 0 (omega arith) ∙ ap (λ (i : ℕ). get_or f n 0 ∷ drop i f) e
    ∙ ap (λ (l : List ℕ). get_or f n 0 ∷ l) (drop-cons f (length f - 1) 0 (omega arith) ∙ ap (λ (l : List ℕ). get_or f (length f - 1) 0 ∷ l) (drop_of_length-le f k)))

-- a right CRC leaves 0
pub right_zero : (f : List ℕ) → 2 ≤ length f → Bytes f → crc_right f ≡ true → crc_of f ≡ 0
unfolding crc_right
right_zero f h b e =
    let body = take (length f - 2) f in
    let low = get_or f (length f - 2) 0 in
    let high = get_or f (length f - 1) 0 in
    let c : number high low ≡ crc_of body = eqb-true (number high low) (crc_of body) (and_both (leb 2 (length f)) _ e).1 in
    let l : low ≡ crc_of body % 256 = omega (arith, b (length f - 2)) in
    let u : high ≡ crc_of body / 256 = omega (arith, b (length f - 2)) in
    ap crc_of (last-two f h ∙ ap₂ (λ (x y : ℕ). body ++ (x ∷ (y ∷ []))) l u)
    ∙ crc-append crc_start body (crc_bytes (crc_of body)) ∙ own-crc (crc_of body)

set-bytes : (f : List ℕ) (i b : ℕ) → Bytes f → b < 256 → Bytes (set f i b)
set-bytes [] i b g h n = g n
set-bytes (x ∷ f) zero b g h zero = h
set-bytes (x ∷ f) zero b g h (suc n) = g (suc n)
set-bytes (x ∷ f) (suc i) b g h zero = g 0
set-bytes (x ∷ f) (suc i) b g h (suc n) = set-bytes f i b (λ m. g (suc m)) h n

-- ONE BYTE CHANGED IS SEEN: two frames that are not broken never differ in exactly one byte
pub one-byte-seen : (f : List ℕ) (i b : ℕ) → Bytes f → b < 256 → i < length f → is_broken f ≡ false → (b ≡ get_or f i 0 → ⊥) → is_broken (set f i b) ≡ true
one-byte-seen f i b g h k e d = by (is_broken (set f i b)) refl
  where
    same : is_broken (set f i b) ≡ false → b ≡ get_or f i 0
    same q =
        let w = whole f e in
        let v = whole (set f i b) q in
        let x : 2 ≤ length f = omega (arith, w.least) in
        let y : 2 ≤ length (set f i b) = omega (arith, v.least) in
        one_byte f crc_start i b (lit< tt) g h k (right_zero (set f i b) y (set-bytes f i b g h) v.crc ∙ sym (right_zero f x g w.crc))

    by : (t : Bool) → is_broken (set f i b) ≡ t → t ≡ true
    by true q = refl
    by false q = absurd (d (same q))
