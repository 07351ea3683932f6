-- `text::hex::put_pair` meets its contract: the two bytes are the digits.
use Rattle.text.proofs.hex.put_pair.Goals as goal

pub returns : goal.returns
returns c = let d = c in
    rw (d.letter.ensures, d.letter-2.ensures) at c.put_bytes.ensures
