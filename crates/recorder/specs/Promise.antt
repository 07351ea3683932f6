-- What the recorder promises, as claims in definitions alone; RecordedLaws proves each of them.
use Rattle.std.specs.Prelude.{◌≡◌, List, ℕ, ◌*◌, ◌/◌, ◌≤◌, length, drop}
use Rattle.bitplanes.specs.Turned.{turned}
use Rattle.events.specs.Bytes.{words_in, AllBytes}
use Rattle.recorder.specs.Recorded.{group_bytes, stored, in_pieces}

-- as many bytes are stored
abbrev pub LengthKept : Type 0
LengthKept = (bytes : List ℕ) → length (stored bytes) ≡ length bytes

-- the words stored are the words turned
abbrev pub WordsTurned : Type 0
WordsTurned = (bytes : List ℕ) → words_in (stored bytes) ≡ turned (words_in bytes)

-- what lies behind the last full group is as it was: a remainder of words, and 1 to 3 bytes left over
abbrev pub RestKept : Type 0
RestKept = (bytes : List ℕ) → drop (length bytes / group_bytes * group_bytes) (stored bytes) ≡ drop (length bytes / group_bytes * group_bytes) bytes

-- storing what was stored brings the bytes back, at every length
abbrev pub BytesBack : Type 0
BytesBack = (bytes : List ℕ) → AllBytes bytes → stored (stored bytes) ≡ bytes

-- bytes may come in pieces of whole groups: what is stored is the same
abbrev pub PiecesJoined : Type 0
PiecesJoined = (k n : ℕ) (bytes : List ℕ) → n * (k * group_bytes) ≤ length bytes → in_pieces (k * group_bytes) n bytes ≡ stored bytes
