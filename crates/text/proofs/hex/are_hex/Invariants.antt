-- `text::hex::are_hex` meets its contract. The invariant: what is left decides, behind n numbers.
use Prim.Native.Nat.{◌+◌, ◌≤◌}
use mathlib.Core.Path.{◌≡◌}
use lib.ListN.{length}
use Rattle.text.specs.Words.{words_of}
use Rattle.text.specs.HexList.{are_hex}
use Rattle.text.proofs.HexListLaws.{hex_from}
use Rattle.text.proofs.hex.are_hex.Given as goal

abbrev pub invariant-loop-n : goal.invariant-loop-n
invariant-loop-n l =
    let n = l.n-iterator.count in
    let ws = words_of l.n-iterator.iter.text.now in
    (goal.iterator-loop-n).can_next l.n-iterator
    × (goal.iterator-loop-n).is_finite l.n-iterator
    × (n ≤ l.count)
    × (n + length ws ≤ length l.s)
    × (hex_from l.count l.least l.most n ws ≡ are_hex l.count l.least l.most (words_of l.s))
