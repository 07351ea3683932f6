-- `text::hex::are_hex` meets its contract: each word is looked at in turn, and the words behind it are left.
use mathlib.Core.Path.{sym, ap, ◌∙◌}
use native.Mathlib.Omega.{arith}
use lib.ListN.{length}
use Rattle.std.proofs.Common.{inl}
use Rattle.text.specs.Words.{first_of}
use Rattle.text.specs.WordLaws.{words-few, first-of}
use Rattle.text.proofs.HexListLaws.{taken, hex-start, hex-end, hex-over, hex-other, hex-next}
use Rattle.text.proofs.hex.are_hex.Goals.{then-n-count-via-then-n-count, then-n-count-via-else-n-count+then-not-is_hex}
use Rattle.text.proofs.hex.are_hex.Goals as goal

pub loop-n-init : goal.loop-n-init
loop-n-init c =
    let into = c.into_iter-n-iterator.ensures.into_iter_gives in
    let made = c.enumerate-n-items.ensures in
    let few = words-few c.args.s.now in (
      (tt, tt, rw (into, made.source, made.count) (inl (omega (arith, few)))),
      tt,
      rw (into, made.count) (omega arith),
      rw (into, made.source, made.count) (omega (arith, few)),
      rw (into, made.source, made.count) (hex-start _ _ _ _),
    )

pub returns-then-n-count : goal.returns-then-n-count
returns-then-n-count c =
    let i = c.loop-n.invariant in
    let s = c.in-Some.ensures.steps in
    let t = taken _ _ _ s.0 in
    elim c.then-n-count.branch [
      | then-n-count-via-then-n-count w ↦ sym (hex-over _ _ _ _ t.0) ∙ (rw (sym s.1 ∙ w.if-n-count.true) at i.4)
      | then-n-count-via-else-n-count+then-not-is_hex w ↦ sym (hex-other _ _ _ _ _ t.0 (rw t.1 (sym w.is_hex.ensures ∙ w.if-not-is_hex.true))) ∙ i.4
    ]

pub loop-n-preserved : goal.loop-n-preserved
loop-n-preserved c =
    let i = c.loop-n.invariant in
    let s = c.in-Some.ensures.steps in
    let t = taken _ _ _ s.0 in
    let left = rw s.0 at i.3 in
    let is = hex-next _ _ _ _ _ t.0 (rw t.1 (sym c.is_hex.ensures ∙ c.if-not-is_hex.false)) ∙ i.4 in (
      (tt, tt, rw s.2 (inl (omega (arith, left)))),
      tt,
      rw s.2 (omega (arith, i.2, s.1, c.if-n-count.false)),
      rw s.2 (omega (arith, left)),
      rw (s.2, ← t.2) is,
    )

pub returns : goal.returns
returns c =
    let i = c.loop-n.invariant in
    let none = c.in-None.ensures.steps.0.0 in
    sym (hex-end _ _ _ _ _ i.2 (ap length (sym (first-of _) ∙ ap first_of none))) ∙ i.4
