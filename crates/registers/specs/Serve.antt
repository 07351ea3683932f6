-- What a frame gives: the reply, the refusal, and the state after it. Request K2, from "Document 002 decides the map" on.
-- Main properties (ServeLaws): a slot that was written is read back as it; what is read of a slot is the word in force; a frame that is no write
-- carried out changes nothing at all, and after a write carried out the panel is the fresh one of the table in force with that slot changed.
use Rattle.std.specs.Prelude.{Bool, true, false, cond, Option, None, Some, List, [], ℕ, ◌/◌, eqb, ℤ}
use Rattle.state.specs.declared.Live.{Live}
use Rattle.state.specs.declared.State.{State}
use Rattle.state.specs.State.{state_of, fresh_of}
use Rattle.modbus.specs.declared.Refusal.{Refusal}
use Rattle.modbus.specs.declared.Refusal.TheVariants.{BrokenFrame}
use Rattle.modbus.specs.declared.Exception.TheVariants.{Value}
use Rattle.modbus.specs.declared.Request.{Request}
use Rattle.modbus.specs.declared.Request.TheVariants.{Broken, Ignored, Exception, Read, Write}
use Rattle.modbus.specs.declared.replies.Reply.{Reply}
use Rattle.modbus.specs.Request.{write_function, shown_register, exception_code, asked_of}
use Rattle.modbus.specs.Replies.{read_reply, write_reply, exception_reply, packed}
use Rattle.parameters.specs.Load.{load_refusal}
use Rattle.parameters.specs.Slots.{word_at, with_word}
use Rattle.registers.specs.declared.Response.{Response}

-- what a frame gives; `afresh` says that it was a write carried out
pub record Served : Type 0 where
  pub state : State
  pub reply : Reply
  pub refusal : Option Refusal
  pub afresh : Bool

-- the same, of a table and the response beside it
abbrev pub served_by : List ℤ → Response → Served
served_by t r = record { state = state_of t r.live; reply = r.reply; refusal = r.refusal; afresh = r.afresh }

-- ---- the map

-- "parameter slot n lies in holding registers 2n (low half) and 2n + 1 (high half)"
abbrev pub slot_in : ℕ → ℕ
slot_in register = register / 2

-- "and likewise the shown value in hex 1000 and 1001. The table read is the one in force"
unfoldable pub word_in : List ℤ → ℤ → ℕ → ℤ
word_in t shown register = cond (eqb register shown_register) shown (word_at t (slot_in register))

-- ---- replies and refusals

-- a reply where one is due
unfoldable pub sent : Bool → Reply → Reply
sent due reply = cond due reply (packed [])

abbrev pub unchanged_by : Live → Reply → Option Refusal → Response
unchanged_by l reply r = record { live = l; reply = reply; refusal = r; afresh = false }

abbrev pub unchanged : State → Reply → Option Refusal → Served
unchanged s reply r = record { state = s; reply = reply; refusal = r; afresh = false }

-- ---- a write

-- "A write makes the table in force with that slot changed"
abbrev pub written_table : State → ℕ → ℤ → List ℤ
written_table s register z = with_word s.table (slot_in register) z

-- "starts afresh with it"
abbrev pub carried_out : ℕ → State → Bool → ℕ → ℤ → Served
carried_out node s due register z =
    record { state = fresh_of (written_table s register z); reply = sent due (packed (write_reply node register)); refusal = None; afresh = true }

-- "passes it through every load check ..; a failed check changes nothing and is answered by exception 3"
unfoldable pub written_of : ℕ → State → Bool → ℕ → ℤ → Served
written_of node s due register z =
    cond (eqb (load_refusal (written_table s register z)) 0)
    (carried_out node s due register z)
    (unchanged s (sent due (packed (exception_reply node write_function (exception_code Value)))) None)

-- ---- a frame

-- 20 "gives no reply and no change"; a frame that is ignored gives neither and no refusal
unfoldable pub request_of : ℕ → State → Bool → Request → Served
request_of node s due Broken = unchanged s (packed []) (Some BrokenFrame)
request_of node s due Ignored = unchanged s (packed []) None
request_of node s due (Exception function exception) = unchanged s (sent due (packed (exception_reply node function (exception_code exception)))) None
request_of node s due (Read register) = unchanged s (sent due (packed (read_reply node (word_in s.table s.live.shown register)))) None
request_of node s due (Write register z) = written_of node s due register z

-- WHAT A FRAME GIVES: `asked_of` has the order of the tests
unfoldable pub served_of : ℕ → State → List ℕ → Served
served_of node s f = request_of node s (asked_of node f).reply (asked_of node f).request
