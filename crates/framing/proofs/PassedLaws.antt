-- Other nodes on the line: what a master asks of them and what they reply is passed over, so that a request right behind it is heard.
-- By a chance of 1 in 65536 the first 8 bytes of a reply to a read, or of a write, have a right CRC of their own and are taken for a whole frame; the laws have
-- as their premise that they have not. What is left then ends at silence as a broken frame, which is not answered and changes nothing.
use Rattle.std.specs.Prelude.{◌≡◌, Bool, true, false, cond, ◌||◌, List, [], ◌∷◌, ◌++◌, ◌⊎◌, ℕ, ◌+◌, ◌/◌, ◌≤◌, ◌<◌, ℤ, length, get_or, take}
use Rattle.std.proofs.Math.Path.{refl}
use Rattle.std.proofs.Common.{sym, ap, ◌∙◌, true≢false, arith, get_or-take, length-take-le}
use Rattle.std.proofs.Math.Bool.{or-true}
use Rattle.std.proofs.Math.Logic.{inl, inr}
use borrow.Author.Tests.{ne_eqb, le-leb}
use Rattle.std.specs.Int.Bits.{bit_or, or_add_and}
use Rattle.std.proofs.lemmas.Nat.{and_le_l}
use Rattle.modbus.specs.Crc.{sealed}
use Rattle.modbus.specs.Words.{number_bytes, word_bytes}
use Rattle.modbus.specs.Request.{address_in, function_in, read_function, write_function}
use Rattle.modbus.specs.Replies.{read_frame, write_frame, write_reply, exception_reply, read_reply}
use Rattle.modbus.proofs.RoundTripLaws.{sealed-right}
use Rattle.framing.specs.declared.Collector.{Collector}
use Rattle.framing.specs.Ends.{is_request, is_reply_long, is_reply, is_foreign, stops}
use Rattle.framing.proofs.EndLaws.{request-whole, known, no-shorter, answer, neither}
use Rattle.framing.specs.Collector.{fed, heard}
use Rattle.framing.proofs.CollectorLaws.{Holds, passed_over}
use Rattle.framing.proofs.HeardLaws.{read-is-request, write-is-request}

reply-stops : (node : ℕ) (f : List ℕ) → is_foreign node f ≡ true → is_reply f ≡ true → stops node f ≡ true
unfolding stops
reply-stops node f o e = rw (o, e, or-true)

request-stops : (node : ℕ) (f : List ℕ) → is_request f ≡ true → stops node f ≡ true
unfolding stops
request-stops node f e = by (is_foreign node f)
  where
    by : (o : Bool) → cond o (is_request f || is_reply f) (is_request f) ≡ true
    by true = rw e
    by false = e

-- ---- no shorter part of such a frame stops
module _ (node : ℕ) (f : List ℕ) (k : ℕ) (h : k < length f) where
  size : length (take k f) ≡ k
  size = length-take-le k f (omega arith)

  function-of-request : is_request (take k f) ≡ true → function_in (take k f) ≡ function_in f
  function-of-request e = get_or-take k f 1 0 (omega (arith, (request-whole (take k f) e).1.least, size))

  function-of-reply : is_reply (take k f) ≡ true → function_in (take k f) ≡ function_in f
  function-of-reply e = get_or-take k f 1 0 (omega (arith, (answer (take k f) e).least, size))

  -- of a reply to a write
  write-reply-part : length f ≡ 8 → function_in f ≡ write_function → stops node (take k f) ≡ false
  write-reply-part n g = neither node (take k f)
      (λ e. omega (arith, (request-whole (take k f) e).1.write (function-of-request e ∙ g), size))
      (λ e. omega (arith, (answer (take k f) e).write (function-of-reply e ∙ g), size))

  -- of an exception
  exception-part : length f ≡ 5 → 128 ≤ function_in f → stops node (take k f) ≡ false
  exception-part n g = neither node (take k f)
      (λ e. never e (known (take k f) (request-whole (take k f) e).0))
      (λ e. omega (arith, (answer (take k f) e).least, size))
    where
      never : is_request (take k f) ≡ true → (function_in (take k f) ≡ read_function) ⊎ (function_in (take k f) ≡ write_function) → ⊥
      never e (inl q) = omega (arith, function-of-request e)
      never e (inr q) = omega (arith, function-of-request e)

  -- of a reply to a read, whose third byte is its byte count
  reply-count : is_reply (take k f) ≡ true → function_in f ≡ read_function → (5 < k) × (k ≡ 5 + get_or f 2 0)
  reply-count e g =
      let a = answer (take k f) e in
      let b = a.read (function-of-reply e ∙ g) in
      (omega (arith, b.0, size), omega (arith, b.1, size, get_or-take k f 2 0 (omega (arith, a.least, size))))

  -- of a read, where its third byte is no such count
  read-part : is_request f ≡ true → function_in f ≡ read_function → (get_or f 2 0 ≡ 0) ⊎ (3 ≤ get_or f 2 0) → stops node (take k f) ≡ false
  read-part r g z = neither node (take k f) (λ e. true≢false (sym e ∙ no-shorter f r k h)) (λ e. never e z)
    where
      never : is_reply (take k f) ≡ true → (get_or f 2 0 ≡ 0) ⊎ (3 ≤ get_or f 2 0) → ⊥
      never e (inl q) = omega (arith, (reply-count e g).0, (reply-count e g).1)
      never e (inr q) = omega (arith, (reply-count e g).1, (request-whole f r).1.read g)

  -- of a reply to a read of one word, where its first 8 bytes are no request by chance
  read-reply-part : length f ≡ 9 → function_in f ≡ read_function → get_or f 2 0 ≡ 4 → is_request (take 8 f) ≡ false → stops node (take k f) ≡ false
  read-reply-part n g z c = neither node (take k f)
      (λ e.
      let m : k ≡ 8 = omega (arith, (request-whole (take k f) e).1.read (function-of-request e ∙ g), size) in
      true≢false (sym e ∙ ap (λ (i : ℕ). is_request (take i f)) m ∙ c))
      (λ e. omega (arith, (reply-count e g).1))

  -- of a write, where its first 8 bytes are no reply by chance
  write-part : is_request f ≡ true → function_in f ≡ write_function → is_reply (take 8 f) ≡ false → stops node (take k f) ≡ false
  write-part r g c = neither node (take k f)
      (λ e. true≢false (sym e ∙ no-shorter f r k h))
      (λ e.
      let m : k ≡ 8 = omega (arith, (answer (take k f) e).write (function-of-reply e ∙ g), size) in
      true≢false (sym e ∙ ap (λ (i : ℕ). is_reply (take i f)) m ∙ c))

-- ---- the frames
module _ (node other : ℕ) (c : Collector) (h : Holds c []) (z : other ≡ 0 → ⊥) (n : other ≡ node → ⊥) where
  -- nothing is heard, and nothing is held behind it
  abbrev Passed : List ℕ → Type 0
  Passed f = (heard node c f ≡ []) × Holds (fed node c f) []

  away : (f : List ℕ) → address_in f ≡ other → is_foreign node f ≡ true
  unfolding is_foreign
  away f e = rw (e, ne_eqb other 0 z, ne_eqb other node n)

  -- what a master asks of another node
  pub read-passed : (r : ℕ) → (r < 256) ⊎ (768 ≤ r) → Passed (read_frame other r)
  unfolding read_frame sealed
  read-passed r s =
      let f = read_frame other r in
      let e = read-is-request other r in
      passed_over node c f h (omega arith) (omega arith) (λ k p q. read-part node f k q e refl (high s)) (away f refl) (request-stops node f e)
    where
      high : (r < 256) ⊎ (768 ≤ r) → (r / 256 ≡ 0) ⊎ (3 ≤ r / 256)
      high (inl q) = inl (omega arith)
      high (inr q) = inr (omega arith)

  pub write-passed : (r : ℕ) (v : ℤ) → is_reply (take 8 (write_frame other r v)) ≡ false → Passed (write_frame other r v)
  unfolding write_frame sealed
  write-passed r v chance =
      let f = write_frame other r v in
      let e = write-is-request other r v in
      passed_over node c f h (omega arith) (omega arith) (λ k p q. write-part node f k q e refl chance) (away f refl) (request-stops node f e)

  -- what another node replies
  write-reply-whole : (r : ℕ) → is_reply (write_reply other r) ≡ true
  unfolding is_reply is_reply_long write_reply sealed
  write-reply-whole r = rw (sealed-right (other ∷ (write_function ∷ (number_bytes r ++ number_bytes 2))))

  pub write-reply-passed : (r : ℕ) → Passed (write_reply other r)
  unfolding write_reply sealed
  write-reply-passed r =
      let f = write_reply other r in
      let o = away f refl in
      passed_over node c f h (omega arith) (omega arith) (λ k p q. write-reply-part node f k q refl refl) o (reply-stops node f o (write-reply-whole r))

  -- hex 80 set makes at least hex 80
  marked : (function : ℕ) → 128 ≤ bit_or function 0x80
  marked function = omega (arith, or_add_and function 0x80, and_le_l function 0x80)

  exception-whole : (function code : ℕ) → is_reply (exception_reply other function code) ≡ true
  unfolding is_reply is_reply_long exception_reply sealed
  exception-whole function code =
      let m = marked function in
      rw (
        ne_eqb (bit_or function 0x80) 3 (λ q. omega arith),
        ne_eqb (bit_or function 0x80) 16 (λ q. omega arith),
        le-leb 0x80 (bit_or function 0x80) m,
        sealed-right (other ∷ (bit_or function 0x80 ∷ (code ∷ []))),
      )

  pub exception-passed : (function code : ℕ) → Passed (exception_reply other function code)
  unfolding exception_reply sealed
  exception-passed function code =
      let f = exception_reply other function code in
      let o = away f refl in
      passed_over node c f h (omega arith) (omega arith) (λ k p q. exception-part node f k q refl (marked function)) o (reply-stops node f o (exception-whole function code))

  read-reply-whole : (v : ℤ) → is_reply (read_reply other v) ≡ true
  unfolding is_reply is_reply_long read_reply sealed
  read-reply-whole v = rw (sealed-right (other ∷ (read_function ∷ (4 ∷ word_bytes v))))

  pub read-reply-passed : (v : ℤ) → is_request (take 8 (read_reply other v)) ≡ false → Passed (read_reply other v)
  unfolding read_reply sealed
  read-reply-passed v chance =
      let f = read_reply other v in
      let o = away f refl in
      passed_over node c f h (omega arith) (omega arith) (λ k p q. read-reply-part node f k q refl refl refl chance) o (reply-stops node f o (read-reply-whole v))
