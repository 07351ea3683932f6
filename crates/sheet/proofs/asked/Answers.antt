-- `sheet::asked` meets its contract: the number behind the word, or none.
use mathlib.Core.Path.{◌≡◌, ◌∙◌, sym}
use native.Mathlib.Omega.{arith}
use Rattle.text.specs.WordLaws.{others-of}
use Rattle.sheet.specs.Sheet.{number_behind, asked_text}
use borrow.Author.Rules.{rules}
use Rattle.sheet.proofs.asked.Goals as goal

pub answer-requires : goal.answer-requires
answer-requires c = let s = c in (rw c.in_force-table.ensures s.requires.0.state.table, omega arith)

pub returns-in-Some : goal.returns-in-Some
unfolding asked_text
returns-in-Some c = let a = c in
    let known = a in
    let n = known in
    let s = n in
    let e : n.natural-n.result ≡ number_behind s.args.line.now = rw (n.natural-n.ensures, n.only.ensures, n.rest.ensures, others-of s.args.line.now) in
    rw (← e, known.in-Some.is, ← a.in_force-table.ensures) a.answer.ensures

pub returns-in-None : goal.returns-in-None
unfolding asked_text
returns-in-None c = let w = c in
    let known = w in
    let n = known in
    let s = n in
    let e : n.natural-n.result ≡ number_behind s.args.line.now = rw (n.natural-n.ensures, n.only.ensures, n.rest.ensures, others-of s.args.line.now) in
    rw (← e, known.in-None.is) w.wrong.ensures
