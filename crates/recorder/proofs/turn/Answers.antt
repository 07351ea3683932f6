-- `recorder::turn` meets its contract. The loop's invariant: the copy with its groups turned is the output up to group k and what is left of the groups.
use mathlib.Core.Path.{◌≡◌, sym, ap, ◌∙◌}
use mathlib.Core.List.{List, ◌++◌}
use Prim.Native.Nat.{ℕ, suc, ◌+◌, ◌-◌, ◌*◌, ◌/◌}
use native.Mathlib.Omega.{arith}
use borrow.Author.Rules.{rules}
use borrow.Author.Tests.{le-ltb}
use lib.ListN.{length, take, drop, take-append-drop}
use Rattle.std.specs.Prelude.{Ok}
use Rattle.bitplanes.specs.Turned.{in_groups}
use Rattle.bitplanes.proofs.GroupLaws.{groups-append, group-next}
use Rattle.recorder.specs.Recorded.{turned_bytes, stored}
use Rattle.recorder.proofs.RecordedLaws.{bytes-keep}
use Rattle.recorder.proofs.turn.Goals as goal

pub loop-k-preserved : goal.loop-k-preserved
loop-k-preserved c =
    let n = length c.args.input.now in
    let k = c.loop-k.k in
    let o = c.loop-k.output in
    let left : n / 128 - k ≡ suc (n / 128 - (k + 1)) = omega arith in
    let next : k * 128 + 128 ≡ (k + 1) * 128 = omega arith in (
      search rules,
      c.loop-k.invariant.1 ∙ ap (λ (x : ℕ). take (k * 128) o ++ in_groups 128 turned_bytes x (drop (k * 128) o)) left
          ∙ group-next 128 turned_bytes bytes-keep o c.turn_group.new.group (k * 128) (n / 128 - (k + 1)) (k * 128 + 128 - k * 128) (omega arith) (omega arith) c.turn_group.ensures
          ∙ rw next,
    )

pub returns : goal.returns
unfolding in_groups
returns c =
    let ts = c.args.input.now in
    let old = c.args.output.now in
    let n = length ts in
    let at = c.loop-k.k * 128 in
    let none : n / 128 - c.loop-k.k ≡ 0 = omega arith in
    let all : c.loop-k.output ≡ stored ts ++ drop n old =
    sym (take-append-drop at c.loop-k.output)
    ∙ ap (λ (k : ℕ). take at c.loop-k.output ++ in_groups 128 turned_bytes k (drop at c.loop-k.output)) (sym none)
    ∙ sym c.loop-k.invariant.1 ∙ ap (λ (x : List ℕ). in_groups 128 turned_bytes (n / 128) (x ++ drop n old)) c.copy_from_slice.ensures.after
    ∙ groups-append 128 turned_bytes (n / 128) ts (drop n old) (omega arith) in
    rw (le-ltb _ _ c.if-output-n.false) (ap (λ (x : List ℕ). (Ok tt, x)) all)
