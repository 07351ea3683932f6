-- What the recorder stores: bytes, 4 a word and the lowest first, with each full group of 32 words turned; what lies behind the last full group is passed through as it is.
-- Paper 02, K8. That these are the words turned, and that turning again brings the bytes back, stands in Promise.
use Rattle.std.specs.Prelude.{List, ◌++◌, ℕ, zero, suc, ◌/◌, length, take, drop, Result}
use Rattle.bitplanes.specs.declared.TooShort.{TooShort}
use Rattle.bitplanes.specs.Turned.{turned_group, in_groups, filled}
use Rattle.events.specs.Bytes.{words_in, bytes_of}

-- the bytes of a full group: 32 words of 4
abbrev pub group_bytes : ℕ
group_bytes = 128

-- a full group
abbrev pub turned_bytes : List ℕ → List ℕ
turned_bytes group = bytes_of (turned_group (words_in group))

-- "turns each full group of 32 telegrams before storage"
abbrev pub stored : List ℕ → List ℕ
stored bytes = in_groups group_bytes turned_bytes (length bytes / group_bytes) bytes

-- what `turn` answers and leaves in the output slice
abbrev pub stored_into : List ℕ → List ℕ → Result Unit TooShort × List ℕ
stored_into bytes old = filled bytes (stored bytes) old

-- n pieces of size bytes stored one after the other, and what is left behind them
unfoldable pub in_pieces : ℕ → ℕ → List ℕ → List ℕ
in_pieces size zero bytes = stored bytes
in_pieces size (suc n) bytes = stored (take size bytes) ++ in_pieces size n (drop size bytes)
