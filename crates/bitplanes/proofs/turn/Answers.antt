-- `bitplanes::turn` meets its contract. The loop's invariant: the copy with its groups turned is the output up to group k and what is left of the groups.
use mathlib.Core.Path.{◌≡◌, sym, ap, ◌∙◌}
use mathlib.Core.List.{List, ◌++◌}
use Prim.Native.Nat.{ℕ, suc, ◌+◌, ◌-◌, ◌*◌, ◌/◌}
use native.Mathlib.Omega.{arith}
use borrow.Author.Rules.{rules}
use borrow.Author.Tests.{le-ltb}
use lib.ListN.{length, take, drop, take-append-drop}
use Rattle.std.specs.Prelude.{Ok}
use Rattle.bitplanes.specs.Turned.{turned_group, in_groups, turned}
use Rattle.bitplanes.proofs.GroupLaws.{groups-append, group-next}
use Rattle.bitplanes.proofs.TurnedLaws.{group-keeps}
use Rattle.bitplanes.proofs.turn.Goals as goal

pub loop-k-preserved : goal.loop-k-preserved
loop-k-preserved c =
    let n = length c.args.input.now in
    let k = c.loop-k.k in
    let o = c.loop-k.output in
    let left : n / 32 - k ≡ suc (n / 32 - (k + 1)) = omega arith in
    let next : k * 32 + 32 ≡ (k + 1) * 32 = omega arith in (
      search rules,
      c.loop-k.invariant.1 ∙ ap (λ (x : ℕ). take (k * 32) o ++ in_groups 32 turned_group x (drop (k * 32) o)) left
          ∙ group-next 32 turned_group group-keeps o c.turn_group.new.g (k * 32) (n / 32 - (k + 1)) (k * 32 + 32 - k * 32) (omega arith) (omega arith) c.turn_group.ensures
          ∙ rw next,
    )

pub returns : goal.returns
unfolding in_groups
returns c =
    let ts = c.args.input.now in
    let old = c.args.output.now in
    let n = length ts in
    let at = c.loop-k.k * 32 in
    let none : n / 32 - c.loop-k.k ≡ 0 = omega arith in
    let all : c.loop-k.output ≡ turned ts ++ drop n old =
    sym (take-append-drop at c.loop-k.output)
    ∙ ap (λ (k : ℕ). take at c.loop-k.output ++ in_groups 32 turned_group k (drop at c.loop-k.output)) (sym none)
    ∙ sym c.loop-k.invariant.1 ∙ ap (λ (x : List ℕ). in_groups 32 turned_group (n / 32) (x ++ drop n old)) c.copy_from_slice.ensures.after
    ∙ groups-append 32 turned_group (n / 32) ts (drop n old) (omega arith) in
    rw (le-ltb _ _ c.if-output-n.false) (ap (λ (x : List ℕ). (Ok tt, x)) all)
