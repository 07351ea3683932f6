-- What holds of every frame, node and state; then what a master's reads and writes give. Request K2.
use Rattle.std.specs.Prelude.{◌≡◌, refl, Bool, true, false, cond, Option, None, Some, List, [], ℕ, ◌*◌, ◌/◌, ◌%◌, ◌^◌, ◌≤◌, ◌<◌, eqb, ℤ, pos, get_or, set, is_some}
use Rattle.std.proofs.Math.Path.{sym}
use Rattle.std.proofs.Common.{subst, ap, ◌∙◌, length-set}
use native.Mathlib.Omega.{arith}
use borrow.Author.Tests.{eqb-true, eq-eqb, ne_eqb, lt-ltb}
use Rattle.std.proofs.Math.ListN.{length}
use Rattle.std.specs.Int.Signed.{mag}
use Rattle.state.specs.declared.State.{State}
use Rattle.inputs.specs.Commands.{reset_of, teach_of}
use Rattle.state.proofs.ValidLaws.{good-fresh}
use Rattle.state.specs.State.{state_of, fresh_of, reread_of}
use Rattle.state.specs.Valid.{Good}
use Rattle.integers.specs.ChoiceLaws.{by-test, is_true}
use Rattle.modbus.specs.declared.Refusal.{Refusal}
use Rattle.modbus.specs.declared.Refusal.TheVariants.{BrokenFrame}
use Rattle.modbus.specs.declared.Exception.TheVariants.{Value}
use Rattle.modbus.specs.declared.Request.{Request}
use Rattle.modbus.specs.declared.Request.TheVariants.{Broken, Ignored, Exception, Read, Write}
use Rattle.modbus.specs.declared.Demand.{Demand}
use Rattle.modbus.specs.declared.replies.Reply.{Reply}
use Rattle.modbus.proofs.CrcLaws.{Bytes}
use Rattle.modbus.specs.Request.{address_in, is_broken, write_function, shown_register, is_mapped, exception_code, silent, asked_of}
use Rattle.modbus.proofs.RequestLaws.{one-byte-seen}
use Rattle.modbus.proofs.RoundTripLaws.{read_asked, write-asked, write-asked-of-all}
use Rattle.modbus.specs.Crc.{sealed}
use Rattle.modbus.specs.Replies.{read_frame, write_frame, read_reply, write_reply, exception_reply, longest_reply, packed}
use Rattle.panel.specs.declared.Loaded.{Loaded}
use Rattle.panel.specs.Load.{loaded_of}
use Rattle.parameters.specs.Refusals.{number_told}
use Rattle.parameters.specs.Load.{load_refusal}
use Rattle.parameters.proofs.LoadLaws.{answer-number, answer-none, none-of, not-none}
use Rattle.parameters.specs.Slots.{word_at, offset_slot, preselection_slot}
use Rattle.parameters.proofs.StoreLaws.{word-stored, offset-stored, preselection-stored}
use Rattle.parameters.specs.Valid.{Valid}
use Rattle.parameters.proofs.ValidLaws.{loads}
use Rattle.registers.specs.Serve.{Served, word_in, sent, unchanged, written_table, carried_out, written_of, request_of, served_of}

-- ---- every frame

-- a frame changes nothing, or it is a write carried out, of a table that loads
by_written : (node : ℕ) (s : State) (due : Bool) (register : ℕ) (z : ℤ) (Q : Served → Type 0) →
    ((reply : Reply) (r : Option Refusal) → Q (unchanged s reply r)) →
    (load_refusal (written_table s register z) ≡ 0 → Q (carried_out node s due register z)) → Q (written_of node s due register z)
unfolding written_of
by_written node s due register z Q same carried =
    by-test (eqb (load_refusal (written_table s register z)) 0) _ _ Q (λ t. carried (eqb-true _ 0 (is_true _ t))) (λ _. same _ _)

by-request : (node : ℕ) (s : State) (due : Bool) (q : Request) (Q : Served → Type 0) →
    ((reply : Reply) (r : Option Refusal) → Q (unchanged s reply r)) →
    ((register : ℕ) (z : ℤ) → load_refusal (written_table s register z) ≡ 0 → Q (carried_out node s due register z)) → Q (request_of node s due q)
unfolding request_of
by-request node s due Broken Q same carried = same _ _
by-request node s due Ignored Q same carried = same _ _
by-request node s due (Exception function exception) Q same carried = same _ _
by-request node s due (Read register) Q same carried = same _ _
by-request node s due (Write register z) Q same carried = by_written node s due register z Q same (carried register z)

pub by-served : (node : ℕ) (s : State) (f : List ℕ) (Q : Served → Type 0) →
    ((reply : Reply) (r : Option Refusal) → Q (unchanged s reply r)) →
    ((register : ℕ) (z : ℤ) → load_refusal (written_table s register z) ≡ 0 → Q (carried_out node s (asked_of node f).reply register z)) → Q (served_of node s f)
unfolding served_of
by-served node s f Q same carried = by-request node s (asked_of node f).reply (asked_of node f).request Q same carried

-- a valid state stays valid
pub good-served : (node : ℕ) {s : State} → Good s → (f : List ℕ) → Good (served_of node s f).state
unfolding fresh_of
good-served node {s} g f =
    by-served node s f (λ (x : Served). Good x.state) (λ reply r. g)
    (λ register z e. let g = good-fresh (loads (written_table s register z) e) in record { table = g.table; result = g.result; drive = g.drive; driven = g.driven })

-- every reply fits
sent-fits : (due : Bool) (reply : Reply) → reply.length ≤ longest_reply → (sent due reply).length ≤ longest_reply
unfolding sent packed
sent-fits true reply h = h
sent-fits false reply h = omega arith

request-fits : (node : ℕ) (s : State) (due : Bool) (q : Request) → (request_of node s due q).reply.length ≤ longest_reply
unfolding request_of written_of packed sealed exception_reply read_reply write_reply
request-fits node s due Broken = omega arith
request-fits node s due Ignored = omega arith
request-fits node s due (Exception function exception) = sent-fits due _ (omega arith)
request-fits node s due (Read register) = sent-fits due _ (omega arith)
request-fits node s due (Write register z) =
    by-test (eqb (load_refusal (written_table s register z)) 0) _ _ (λ (x : Served). x.reply.length ≤ longest_reply)
    (λ _. sent-fits _ (packed (write_reply node register)) (omega arith))
    (λ _. sent-fits _ (packed (exception_reply node write_function (exception_code Value))) (omega arith))

pub reply-fits : (node : ℕ) (s : State) (f : List ℕ) → (served_of node s f).reply.length ≤ longest_reply
unfolding served_of
reply-fits node s f = request-fits node s (asked_of node f).reply (asked_of node f).request

pub promised : (node : ℕ) (s : State) (f : List ℕ) (x : Served) → Good s → x ≡ served_of node s f →
    (x ≡ served_of node s f) × (Good x.state × (x.reply.length ≤ longest_reply))
promised node s f x g is = (
  is,
  (
    subst (λ (y : Served). Good y.state) (sym is) (good-served node g f),
    subst (λ (y : Served). y.reply.length ≤ longest_reply) (sym is) (reply-fits node s f),
  ),
)

-- A FRAME THAT IS NOT A WRITE CARRIED OUT CHANGES NOTHING AT ALL
pub still : (node : ℕ) (s : State) (f : List ℕ) → (served_of node s f).afresh ≡ false → (served_of node s f).state ≡ s
still node s f = by-served node s f (λ (x : Served). x.afresh ≡ false → x.state ≡ s) (λ reply r e. refl) (λ register z e k. let w : ◌≡◌ {A = ℕ} 0 1 = cc in absurd (omega arith))

-- A WRITE CARRIED OUT STARTS AFRESH with a table that loads
pub record Afresh (s : State) : Type 0 where
  pub loads : load_refusal s.table ≡ 0
  pub fresh : s ≡ fresh_of s.table

pub afresh : (node : ℕ) (s : State) (f : List ℕ) → (served_of node s f).afresh ≡ true → Afresh (served_of node s f).state
unfolding fresh_of
afresh node s f =
    by-served node s f (λ (x : Served). x.afresh ≡ true → Afresh x.state)
    (λ reply r k. let w : ◌≡◌ {A = ℕ} 0 1 = cc in absurd (omega arith))
    (λ register z e k. record { loads = e; fresh = refl })

-- ---- whom a frame is for

-- no reply is due to a frame that is not to this node
none-due : (node : ℕ) (f : List ℕ) → (address_in f ≡ node → ⊥) → (asked_of node f).reply ≡ false
unfolding asked_of
none-due node f n =
    by-test (is_broken f) _ _ (λ (d : Demand). d.reply ≡ false) (λ _. refl)
    (λ _. by-test (eqb (address_in f) 0) _ _ (λ (d : Demand). d.reply ≡ false) (λ _. refl) (λ _. rw (ne_eqb (address_in f) node n)))

not-due : (node : ℕ) (s : State) (q : Request) → (request_of node s false q).reply ≡ packed []
unfolding request_of written_of sent
not-due node s Broken = refl
not-due node s Ignored = refl
not-due node s (Exception function exception) = refl
not-due node s (Read register) = refl
not-due node s (Write register z) = by-test (eqb (load_refusal (written_table s register z)) 0) _ _ (λ (x : Served). x.reply ≡ packed []) (λ _. refl) (λ _. refl)

-- A FRAME TO ANOTHER NODE HAS NO REPLY, nor has a broadcast, which is to no node
pub no-reply-to-others : (node : ℕ) (s : State) (f : List ℕ) → (address_in f ≡ node → ⊥) → (served_of node s f).reply ≡ packed []
unfolding served_of
no-reply-to-others node s f n = rw (none-due node f n) (not-due node s (asked_of node f).request)

-- and one to another node changes nothing; its number is 20 where it is broken
others-still : (node : ℕ) (f : List ℕ) → (address_in f ≡ 0 → ⊥) → (address_in f ≡ node → ⊥) → asked_of node f ≡ silent (cond (is_broken f) Broken Ignored)
unfolding asked_of
others-still node f z n = rw (ne_eqb (address_in f) 0 z, ne_eqb (address_in f) node n) (by (is_broken f))
  where
    by : (b : Bool) → cond b (silent Broken) (silent Ignored) ≡ silent (cond b Broken Ignored)
    by true = refl
    by false = refl

pub no-change-by-others : (node : ℕ) (s : State) (f : List ℕ) → (address_in f ≡ 0 → ⊥) → (address_in f ≡ node → ⊥) → (served_of node s f).state ≡ s
unfolding served_of request_of
no-change-by-others node s f z n = rw (others-still node f z n) (by (is_broken f))
  where
    by : (b : Bool) → (request_of node s false (cond b Broken Ignored)).state ≡ s
    by true = refl
    by false = refl

-- ---- a damaged frame

-- A FRAME IN WHICH ONE BYTE WAS CHANGED IS 20, whatever it asked
pub one-byte-changed : (node : ℕ) (s : State) (f : List ℕ) (i b : ℕ) → Bytes f → b < 256 → i < length f → is_broken f ≡ false → (b ≡ get_or f i 0 → ⊥) →
    served_of node s (set f i b) ≡ unchanged s (packed []) (Some BrokenFrame)
unfolding served_of asked_of request_of
one-byte-changed node s f i b g h k w n = rw (one-byte-seen f i b g h k w n)

-- ---- a master's reads and writes

slot-mapped : (n : ℕ) → n < 104 → is_mapped (2 * n) ≡ true
unfolding is_mapped
slot-mapped n h = rw (ne_eqb (2 * n) shown_register (λ e. omega arith), lt-ltb (2 * n) 208 (omega arith)) (eq-eqb (2 * n % 2) 0 (omega arith))

module _ (node : ℕ) (s : State) (n : ℕ) (h : n < 104) where
  -- slot n is read as the word in force
  pub slot_read : (node ≡ 0 → ⊥) → served_of node s (read_frame node (2 * n)) ≡ unchanged s (packed (read_reply node (word_at s.table n))) None
  unfolding served_of request_of sent word_in
  slot_read z =
      let half : 2 * n / 2 ≡ n = omega arith in
      rw (read_asked node (2 * n) z (slot-mapped n h), ne_eqb (2 * n) shown_register (λ e. omega arith), half)

  pub slot-written : (z : ℤ) → (node ≡ 0 → ⊥) → mag z < 2 ^ 31 → served_of node s (write_frame node (2 * n) z) ≡ written_of node s true (2 * n) z
  unfolding served_of request_of
  slot-written z o m = rw (write-asked node (2 * n) z o (slot-mapped n h) (λ e. omega arith) m)

  -- and by a broadcast, without a reply
  pub slot-written-by-all : (z : ℤ) → mag z < 2 ^ 31 → served_of node s (write_frame 0 (2 * n) z) ≡ written_of node s false (2 * n) z
  unfolding served_of request_of
  slot-written-by-all z m = rw (write-asked-of-all node (2 * n) z (slot-mapped n h) (λ e. omega arith) m)

-- A SLOT THAT WAS WRITTEN IS READ BACK AS IT
module _ (node : ℕ) (s : State) (n : ℕ) (h : n < 104) (z : ℤ) (o : node ≡ 0 → ⊥) where
  word-written : load_refusal (written_table s (2 * n) z) ≡ 0 → word_at (fresh_of (written_table s (2 * n) z)).table n ≡ z
  unfolding fresh_of
  word-written e =
      let half : 2 * n / 2 ≡ n = omega arith in
      let long : length s.table ≡ 104 = sym (length-set s.table (2 * n / 2) z) ∙ (loads (written_table s (2 * n) z) e).long in
      rw half (word-stored s.table n z (omega arith))

  read_back_lem : (written_of node s true (2 * n) z).afresh ≡ true → (served_of node (written_of node s true (2 * n) z).state (read_frame node (2 * n))).reply ≡ packed (read_reply node z)
  read_back_lem = by_written node s true (2 * n) z (λ (x : Served). x.afresh ≡ true → (served_of node x.state (read_frame node (2 * n))).reply ≡ packed (read_reply node z))
      (λ reply r k. let w : ◌≡◌ {A = ℕ} 0 1 = cc in absurd (omega arith))
      (λ e k. ap Served.reply (slot_read node (fresh_of (written_table s (2 * n) z)) n h o) ∙ ap (λ (y : ℤ). packed (read_reply node y)) (word-written e))

  pub written_back : mag z < 2 ^ 31 → (served_of node s (write_frame node (2 * n) z)).afresh ≡ true →
      (served_of node (served_of node s (write_frame node (2 * n) z)).state (read_frame node (2 * n))).reply ≡ packed (read_reply node z)
  written_back m = rw (slot-written node s n h z o m) read_back_lem

-- the shown value
pub shown_read : (node : ℕ) (s : State) → (node ≡ 0 → ⊥) → served_of node s (read_frame node shown_register) ≡ unchanged s (packed (read_reply node s.live.shown)) None
unfolding served_of request_of sent word_in is_mapped
shown_read node s o = rw (read_asked node shown_register o refl)

-- THE TABLE READ IS THE ONE IN FORCE: after a reset the offset's slot is read as what the result starts from, after a teach the preselection's as the result
pub reset-read : (node : ℕ) (s : State) → (node ≡ 0 → ⊥) → Valid s.table →
    (served_of node (reset_of s) (read_frame node (2 * offset_slot))).reply ≡ packed (read_reply node (pos s.live.basis.start))
unfolding reset_of reread_of
reset-read node s o v =
    ap Served.reply (slot_read node (reset_of s) offset_slot (omega arith) o) ∙ ap (λ (y : ℤ). packed (read_reply node y)) (offset-stored _ v)

pub teach-read : (node : ℕ) (s : State) (k : ℕ) → k < 4 → (node ≡ 0 → ⊥) → Valid s.table →
    (served_of node (teach_of s k) (read_frame node (2 * preselection_slot k))).reply ≡ packed (read_reply node s.live.reading.result)
unfolding teach_of
teach-read node s k h o v =
    ap Served.reply (slot_read node (teach_of s k) (preselection_slot k) (omega arith) o) ∙ ap (λ (y : ℤ). packed (read_reply node y)) (preselection-stored k _ v h)

-- ---- a write as the load answers it

-- what the code makes of a load that is not refused
abbrev pub started : ℕ → List ℤ → Loaded → Bool → ℕ → Served
started node t l due register =
    record { state = state_of t l.state.live; reply = sent due (packed (write_reply node register)); refusal = None; afresh = true }

module _ (node : ℕ) (s : State) (due : Bool) (register : ℕ) (z : ℤ) (t : List ℤ) (l : Loaded) (e : t ≡ written_table s register z) (k : l ≡ loaded_of t) where
  number-of-load : number_told l.refusal ≡ load_refusal (written_table s register z)
  unfolding loaded_of
  number-of-load = rw (k, e) (answer-number (written_table s register z))

  none-of-load : load_refusal (written_table s register z) ≡ 0 → l.refusal ≡ None
  unfolding loaded_of
  none-of-load n = rw (k, e) (answer-none (written_table s register z) n)

  pub refused-write : is_some l.refusal ≡ true → unchanged s (sent due (packed (exception_reply node write_function (exception_code Value)))) None ≡ written_of node s due register z
  unfolding written_of
  refused-write n = rw (ne_eqb (load_refusal (written_table s register z)) 0 (λ q. not-none l.refusal n (none-of-load q)))

  pub write_done : is_some l.refusal ≡ false → started node t l due register ≡ written_of node s due register z
  unfolding written_of loaded_of fresh_of
  write_done n = rw (eq-eqb (load_refusal (written_table s register z)) 0 (sym number-of-load ∙ ap number_told (none-of l.refusal n)), k, e)
