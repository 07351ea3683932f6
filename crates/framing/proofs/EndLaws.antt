-- Where a frame ends: no shorter part of a request is a request, since its function, and of a write its byte count, give its length;
-- and more bytes than a frame can have stop nowhere.
use Rattle.std.specs.Prelude.{◌≡◌, refl, Bool, true, false, cond, not, ◌&&◌, ◌||◌, List, ◌⊎◌, ℕ, ◌+◌, ◌≤◌, ◌<◌, eqb, ltb, leb, length, get_or, take}
use Rattle.std.proofs.Common.{sym, ap, ◌∙◌, true≢false, inl, inr, arith, ltb-true, ltb-false, eqb-true, eq-eqb, ne_eqb, le-ltb, get_or-take, length-take-le}
use Rattle.std.proofs.Math.Bool.{and-false}
use Rattle.std.proofs.lemmas.Bool.{lt-leb, not-true}
use Rattle.integers.specs.TestLaws.{and_both}
use Rattle.modbus.specs.Request.{address_in, function_in, read_function, write_function, is_read, is_write, most_bytes, crc_right, is_broken, is_unknown}
use Rattle.modbus.proofs.WholeLaws.{Whole, whole}
use Rattle.framing.specs.Ends.{is_request, is_reply_long, is_reply, is_foreign, stops}

-- ---- requests
pub request-whole : (f : List ℕ) → is_request f ≡ true → (is_unknown f ≡ false) × Whole f
unfolding is_request
request-whole f e =
    let a = and_both (not (is_unknown f)) (not (is_broken f)) e in
    (not-true (is_unknown f) a.0, whole f (not-true (is_broken f) a.1))

pub known : (f : List ℕ) → is_unknown f ≡ false → (function_in f ≡ read_function) ⊎ (function_in f ≡ write_function)
unfolding is_unknown
known f e = by (is_read f) (is_write f) refl refl
  where
    by : (a b : Bool) → is_read f ≡ a → is_write f ≡ b → (function_in f ≡ read_function) ⊎ (function_in f ≡ write_function)
    by true b p q = inl (eqb-true (function_in f) read_function p)
    by false true p q = inr (eqb-true (function_in f) write_function q)
    by false false p q = absurd (true≢false (rw (p, q) at e))

pub no-shorter : (f : List ℕ) → is_request f ≡ true → (k : ℕ) → k < length f → is_request (take k f) ≡ false
no-shorter f e k h = by (is_request (take k f)) refl
  where
    n : length (take k f) ≡ k
    n = length-take-le k f (omega arith)

    never : is_request (take k f) ≡ true → (function_in f ≡ read_function) ⊎ (function_in f ≡ write_function) → ⊥
    never q g =
        let w = (request-whole f e).1 in
        let v = (request-whole (take k f) q).1 in
        by-function w v (get_or-take k f 1 0 (omega (arith, v.least, n))) g
      where
        by-function : Whole f → Whole (take k f) → function_in (take k f) ≡ function_in f → (function_in f ≡ read_function) ⊎ (function_in f ≡ write_function) → ⊥
        by-function w v same (inl g) = omega (arith, w.read g, v.read (same ∙ g), n)
        by-function w v same (inr g) =
            let long : 6 < k = omega (arith, v.write (same ∙ g), n) in
            omega (arith, w.write g, v.write (same ∙ g), n, get_or-take k f 6 0 long)

    by : (t : Bool) → is_request (take k f) ≡ t → t ≡ false
    by false q = refl
    by true q = absurd (never q (known f (request-whole f e).0))

-- ---- replies
pub record Answer (f : List ℕ) : Type 0 where
  pub read : function_in f ≡ read_function → (5 < length f) × (length f ≡ 5 + get_or f 2 0)
  pub write : function_in f ≡ write_function → length f ≡ 8
  pub least : 5 ≤ length f

long-read : (f : List ℕ) → is_reply_long f ≡ true → function_in f ≡ read_function → (5 < length f) × (length f ≡ 5 + get_or f 2 0)
unfolding is_reply_long
long-read f e g =
    let r : (ltb 5 (length f) && eqb (length f) (5 + get_or f 2 0)) ≡ true = rw (eq-eqb (function_in f) read_function g) at e in
    let a = and_both (ltb 5 (length f)) (eqb (length f) (5 + get_or f 2 0)) r in
    (ltb-true 5 (length f) a.0, eqb-true (length f) (5 + get_or f 2 0) a.1)

long-write : (f : List ℕ) → is_reply_long f ≡ true → function_in f ≡ write_function → length f ≡ 8
unfolding is_reply_long
long-write f e g =
    let n : function_in f ≡ read_function → ⊥ = λ q. omega arith in
    eqb-true (length f) 8 (rw (ne_eqb (function_in f) read_function n, eq-eqb (function_in f) write_function g) at e)

-- every reply has 5 bytes
pub short-no-reply : (f : List ℕ) → length f < 5 → is_reply_long f ≡ false
unfolding is_reply_long
short-no-reply f h = by (is_read f) (is_write f)
  where
    by : (r w : Bool) → cond r (ltb 5 (length f) && eqb (length f) (5 + get_or f 2 0)) (cond w (eqb (length f) 8) (leb 0x80 (function_in f) && eqb (length f) 5)) ≡ false
    by true w = rw (le-ltb 5 (length f) (omega arith))
    by false true = ne_eqb (length f) 8 (λ q. omega arith)
    by false false = rw (ne_eqb (length f) 5 (λ q. omega arith), and-false)

long-least : (f : List ℕ) → is_reply_long f ≡ true → 5 ≤ length f
long-least f e = by (ltb (length f) 5) refl
  where
    by : (t : Bool) → ltb (length f) 5 ≡ t → 5 ≤ length f
    by true p = absurd (true≢false (sym e ∙ short-no-reply f (ltb-true (length f) 5 p)))
    by false p = ltb-false (length f) 5 p

pub answer : (f : List ℕ) → is_reply f ≡ true → Answer f
unfolding is_reply
answer f e =
    let a = and_both (leb (length f) most_bytes) (is_reply_long f && crc_right f) e in
    let b = and_both (is_reply_long f) (crc_right f) a.1 in
    record { read = long-read f b.0; write = long-write f b.0; least = long-least f b.0 }

-- ---- what stops
-- what is neither a request nor a reply does not
pub neither : (node : ℕ) (f : List ℕ) → (is_request f ≡ true → ⊥) → (is_reply f ≡ true → ⊥) → stops node f ≡ false
unfolding stops
neither node f a b = by (is_foreign node f) (is_request f) (is_reply f) refl refl
  where
    by : (o r p : Bool) → is_request f ≡ r → is_reply f ≡ p → cond o (r || p) r ≡ false
    by o true p e d = absurd (a e)
    by o false true e d = absurd (b d)
    by true false false e d = refl
    by false false false e d = refl

-- more than 256 bytes are neither
pub long-goes-on : (node : ℕ) (f : List ℕ) → most_bytes < length f → stops node f ≡ false
unfolding is_reply
long-goes-on node f h = neither node f request reply
  where
    request : is_request f ≡ true → ⊥
    request e = omega (arith, (request-whole f e).1.most)

    reply : is_reply f ≡ true → ⊥
    reply e = true≢false (sym (and_both (leb (length f) most_bytes) (is_reply_long f && crc_right f) e).0 ∙ lt-leb (length f) most_bytes h)

pub foreign-same : (node : ℕ) (f g : List ℕ) → address_in f ≡ address_in g → is_foreign node f ≡ is_foreign node g
unfolding is_foreign
foreign-same node f g e = ap (λ (a : ℕ). not (eqb a 0) && not (eqb a node)) e

pub own-stops : (node : ℕ) (f : List ℕ) → is_foreign node f ≡ false → stops node f ≡ is_request f
unfolding stops
own-stops node f o = rw o
