-- `sheet::log_words::put_word` meets its contract: the four bytes of the word are put.
use mathlib.Core.Path.{subst}
use mathlib.Core.List.{List}
use Prim.Native.Nat.{ℕ}
use borrow.Author.Rules.{rules}
use Rattle.text.specs.Put.{Put}
use Rattle.sheet.proofs.log_words.put_word.Goals as goal

pub returns : goal.returns
returns c = let put = c in
    let read = put in
    let start = read in
    subst (λ (l : List ℕ). Put start.args.out.now start.args.at l put.put_bytes.result put.put_bytes.new.out) read.bytes_of-bytes.ensures put.put_bytes.ensures
