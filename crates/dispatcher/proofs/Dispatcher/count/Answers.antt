-- `dispatcher::count` meets its contract. The invariant: those counted and those from a on are all.
use Rattle.std.proofs.Common.{◌≡◌, Bool, true, false, cond, ℕ, ◌+◌, ◌-◌, ◌<◌, sym, ◌∙◌, arith}
use Rattle.addresses.specs.Search.{count_from}
use Rattle.addresses.proofs.SearchLaws.{count-step}
use Rattle.dispatcher.specs.Dispatch.{present}
use Rattle.dispatcher.proofs.Dispatcher.count.Goals.{then-is_present, else-is_present}
use Rattle.dispatcher.proofs.Dispatcher.count.Goals as goal

-- all of them, when one more was looked at
module _ (p : ℕ → Bool) (a n m all : ℕ) (below : a < 256) (same : all ≡ n + count_from p a (256 - a)) where
  counted : (b : Bool) → p a ≡ b → m ≡ n + cond b 1 0 → all ≡ m + count_from p (a + 1) (256 - (a + 1))
  counted b e one = omega (arith, same, one, count-step p a below b e)

  -- the last one
  last : (b : Bool) → p a ≡ b → m ≡ n + cond b 1 0 → a ≡ 255 → m ≡ all
  unfolding count_from
  last b e one end =
      let none : 256 - (a + 1) ≡ 0 = omega (arith, end) in
      let h = rw none at counted b e one in
      omega (arith, h)

pub loop-a-preserved : goal.loop-a-preserved
loop-a-preserved c =
    let l = c.loop-a in
    let p = present c.args.self.now in
    let h : l.a < 256 = omega (arith, c.loop-a-test.true) in
    elim c.if-is_present.branch [
      | then-is_present w ↦ record {
        few = omega (arith, w.n-is, l.invariant.few);
        all = counted p l.a l.n c.if-is_present.n _ h l.invariant.all true (sym c.is_present.ensures ∙ w.if-is_present.true) (omega (arith, w.n-is));
      }
      | else-is_present w ↦ record {
        few = omega (arith, w.n-is, l.invariant.few);
        all = counted p l.a l.n c.if-is_present.n _ h l.invariant.all false (sym c.is_present.ensures ∙ w.if-is_present.false) (omega (arith, w.n-is));
      }
    ]

pub returns-after-is_present : goal.returns-after-is_present
returns-after-is_present c =
    let l = c.loop-a in
    let p = present c.args.self.now in
    let h : l.a < 256 = omega (arith, c.loop-a-test.true) in
    let end : l.a ≡ 255 = omega (arith, c.loop-a-test.true) in
    elim c.if-is_present.branch [
      | then-is_present w ↦ last p l.a l.n c.if-is_present.n _ h l.invariant.all true (sym c.is_present.ensures ∙ w.if-is_present.true) (omega (arith, w.n-is)) end
      | else-is_present w ↦ last p l.a l.n c.if-is_present.n _ h l.invariant.all false (sym c.is_present.ensures ∙ w.if-is_present.false) (omega (arith, w.n-is)) end
    ]
