-- What a caller finds of a frame's bytes: at most 300, at the start of the buffer.
use Rattle.std.specs.Prelude.{◌≡◌, refl, List, [], ℕ, ◌-◌, ◌≤◌, length, take, replicate}
use Rattle.std.proofs.Math.Seq.{take-append_seam}
use Rattle.text.specs.HexList.{hexes_of}
use Rattle.text.specs.Words.{trimmed_of, words_of, others_of}
use Rattle.script.specs.Commands.{most_bytes, is_frame, frame_in, frame_of, packed}
use Rattle.script.proofs.GatherLaws.{Left, left-none, gathered-fits}
use Rattle.script.specs.declared.frames.Bytes.{Bytes}

-- all stored: the bytes at the start of the buffer, and zeros behind them
pub bytes_packed : (all : List (List ℕ)) (n : ℕ) (bytes : List ℕ) → Left most_bytes 2 2 all n bytes [] → ◌≡◌ {A = Bytes} (record { bytes = bytes; length = n }) (packed (hexes_of all))
unfolding packed
bytes_packed all n bytes l =
    let a = left-none most_bytes 2 2 all n bytes l in
    rw (a.0, a.1)

-- A FRAME HAS AT MOST 300 BYTES
pub frame-fits : (line : List ℕ) → length (frame_of line) ≤ most_bytes
unfolding frame_of frame_in is_frame
frame-fits line = gathered-fits most_bytes 2 2 (others_of (words_of (trimmed_of line)))

pub packed-length : (l : List ℕ) → (packed l).length ≡ length l
unfolding packed
packed-length l = refl

-- the first bytes are the list's
pub packed-bytes : (l : List ℕ) → take (packed l).length (packed l).bytes ≡ l
unfolding packed
packed-bytes l = take-append_seam l (replicate (most_bytes - length l) 0)
