-- `text::hex::put_spaced` meets its contract: the three bytes are the space and the digits.
use Rattle.text.proofs.hex.put_spaced.Goals as goal

pub returns : goal.returns
returns c = let d = c in
    rw (d.letter.ensures, d.letter-2.ensures) at c.put_bytes.ensures
