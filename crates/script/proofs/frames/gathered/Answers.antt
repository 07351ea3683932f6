-- `script::frames::gathered` meets its contract: each turn stores the number that one word is, and the words behind it are left.
use mathlib.Core.Path.{refl}
use native.Mathlib.Omega.{arith}
use Rattle.std.proofs.Common.{inl}
use Rattle.text.specs.WordLaws.{words-few}
use Rattle.script.specs.Commands.{is_frame}
use Rattle.script.proofs.GatherLaws.{left-all, left-hex, left-room, left-next}
use Rattle.script.proofs.FrameLaws.{bytes_packed}
use Rattle.script.proofs.frames.gathered.Goals as goal

pub loop-n-init : goal.loop-n-init
unfolding is_frame
loop-n-init c =
    let into = c.into_iter-n-iterator.ensures.into_iter_gives in
    let made = c.enumerate-n-items.ensures in (
      (tt, tt, rw (into, made.source, made.count) (inl (omega (arith, words-few c.args.s.now)))),
      tt,
      rw (into, made.source, made.count) (left-all _ _ _ _ c.requires),
      rw (into, made.count) refl,
    )

pub byte-requires : goal.byte-requires
byte-requires c = left-hex _ _ _ _ _ _ _ _ (rw c.in-Some.ensures.steps.0 at c.loop-n.invariant.2)

pub bounds-bytes-n : goal.bounds-bytes-n
bounds-bytes-n c = rw c.in-Some.ensures.steps.1 (left-room _ _ _ _ _ _ _ _ (rw c.in-Some.ensures.steps.0 at c.loop-n.invariant.2))

pub loop-n-preserved : goal.loop-n-preserved
loop-n-preserved c =
    let s = c.in-Some.ensures.steps in
    let l = left-next _ _ _ _ _ _ _ _ (rw s.0 at c.loop-n.invariant.2) in (
      (tt, tt, rw s.2 (inl (omega (arith, l.room)))),
      tt,
      rw (c.byte.ensures, s.1, s.2) l,
      rw (s.1, s.2) refl,
    )

pub returns : goal.returns
returns c =
    let i = c.loop-n.invariant in
    rw i.3 (bytes_packed _ _ _ (rw c.in-None.ensures.steps.0.0 at i.2))
