-- `poll_dialog::asked::read` meets its contract: too long, empty, a remark, no word, or what its first word makes of the others.
use mathlib.Core.Path.{◌≡◌, refl, sym, ap, ◌∙◌}
use mathlib.Core.List.{List, [], ◌∷◌}
use Prim.Native.Nat.{ℕ}
use native.Mathlib.Omega.{arith}
use lib.ListN.{length}
use borrow.Author.Tests.{lt-ltb, le-ltb, eq-eqb, ne_eqb}
use Rattle.text.specs.Words.{parts_of, words_of}
use Rattle.text.specs.WordLaws.{no_word, some_word}
use Rattle.poll_dialog.specs.Asked.{meaning_of, meant_of, asked_of}
use Rattle.poll_dialog.specs.declared.asked.Asked.TheVariants.{Blank}
use Rattle.poll_dialog.proofs.asked.read.Goals as goal

-- an empty line asks for nothing
read_none : (s : List ℕ) → length s ≡ 0 → Blank ≡ meant_of s
unfolding words_of parts_of meaning_of
read_none [] h = refl
read_none (b ∷ s) h = absurd (omega arith)

pub returns-then-t-gt-LONGEST : goal.returns-then-t-gt-LONGEST
unfolding asked_of
returns-then-t-gt-LONGEST c = rw (← c.trimmed-t.ensures, lt-ltb _ _ c.if-t-gt-LONGEST.true)

pub returns-then-t-eq0 : goal.returns-then-t-eq0
unfolding asked_of
returns-then-t-eq0 c = let t = c.trimmed-t in
    rw (← t.ensures) (read_none t.result.now c.if-t-eq0.true)

pub returns-then-t-eq35 : goal.returns-then-t-eq35
unfolding asked_of
returns-then-t-eq35 c = rw (← c.trimmed-t.ensures, le-ltb _ _ c.if-t-gt-LONGEST.false, eq-eqb _ _ c.if-t-eq35.true)

pub returns-then-w-eq0 : goal.returns-then-w-eq0
unfolding asked_of meaning_of
returns-then-w-eq0 c = let w = c in
    let e = w in
    let t = e.trimmed-t in
    rw (← t.ensures, le-ltb _ _ e.if-t-gt-LONGEST.false, ne_eqb _ _ e.if-t-eq35.false, no_word t.result.now (sym (ap length w.word-w.ensures) ∙ c.if-w-eq0.true))

pub returns : goal.returns
unfolding asked_of meaning_of
returns c = let w = c in
    let e = w in
    let t = e.trimmed-t in
    let n = c.if-w-eq0.false in
    rw (← t.ensures, le-ltb _ _ e.if-t-gt-LONGEST.false, ne_eqb _ _ e.if-t-eq35.false, some_word t.result.now (omega (arith, ap length w.word-w.ensures)), c.named.ensures, w.word-w.ensures, c.rest.ensures)
