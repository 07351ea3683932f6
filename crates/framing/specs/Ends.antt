-- What ends a frame before silence. Request K2; a frame's length is known from its function.
--
-- A frame to this node or to all ends as soon as it is a whole request; a frame of another node is passed over as soon as it is a whole request or
-- a whole reply. Main property: no shorter part of a request is a request (EndLaws, `no-shorter`).
use Rattle.std.specs.Prelude.{Bool, cond, not, ◌&&◌, ◌||◌, List, ℕ, ◌+◌, eqb, ltb, leb, length, get_or}
use Rattle.modbus.specs.Request.{address_in, function_in, is_read, is_write, most_bytes, crc_right, is_broken, is_unknown}

-- a whole frame of a known function: 8 bytes for function 3, 9 and its byte count for function 16
unfoldable pub is_request : List ℕ → Bool
is_request f = not (is_unknown f) && not (is_broken f)

-- the length of a reply: for function 3 it is 5 and the byte count (the third byte, not 0), for function 16 it is 8, for an exception 5
unfoldable pub is_reply_long : List ℕ → Bool
is_reply_long f =
    cond (is_read f) (ltb 5 (length f) && eqb (length f) (5 + get_or f 2 0))
    (cond (is_write f) (eqb (length f) 8) (leb 0x80 (function_in f) && eqb (length f) 5))

unfoldable pub is_reply : List ℕ → Bool
is_reply f = leb (length f) most_bytes && (is_reply_long f && crc_right f)

-- neither to this node nor to all
unfoldable pub is_foreign : ℕ → List ℕ → Bool
is_foreign node f = not (eqb (address_in f) 0) && not (eqb (address_in f) node)

-- a frame of another node stops as a request or as a reply, any other only as a request
unfoldable pub stops : ℕ → List ℕ → Bool
stops node f = cond (is_foreign node f) (is_request f || is_reply f) (is_request f)
