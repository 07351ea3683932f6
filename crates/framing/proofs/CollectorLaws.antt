-- What becomes of the bytes of one frame: those of another node are passed over, a request is heard once at its last byte,
-- and bytes that stop nowhere are a frame at silence, of which more than 256 are broken.
use Rattle.std.specs.Prelude.{◌≡◌, Bool, true, cond, leb, set}
use Rattle.std.proofs.Math.Path.{refl, sym, ap}
use Rattle.std.proofs.Common.{◌∙◌, add-one, lt-ltb, le-ltb, ne_eqb, leb-false, length-set, take-take, take-suc-set}
use Rattle.std.proofs.Math.Bool.{false}
use mathlib.Core.List.{List, [], ◌∷◌, ◌++◌, append-nil}
use Prim.Native.Nat.{ℕ, suc, ◌+◌, ◌-◌, ◌≤◌, ◌<◌}
use Rattle.std.proofs.Math.Decide.{dec_le}
use native.Mathlib.Omega.{arith}
use Rattle.std.proofs.Math.ListN.{length, get_or, take, length-append}
use Rattle.std.proofs.Math.Seq.{take_at, take_all, take-length, take-suc, length-take-le, append_snoc}
use Rattle.modbus.specs.Request.{most_bytes, is_broken}
use Rattle.modbus.proofs.WholeLaws.{long-broken}
use Rattle.framing.specs.declared.Collector.{Collector}
use Rattle.framing.specs.Ends.{is_foreign, stops}
use Rattle.framing.proofs.EndLaws.{long-goes-on}
use Rattle.framing.specs.Collector.{most_held, held, held_length, emptied, closed, fresh_collector, judged, added, kept, pushed, quieted, fed, heard_at, heard}
use Rattle.framing.proofs.PieceLaws.{fed-pieces, heard-pieces}

-- the bytes held are the first `held_length`
pub held-is : (c : Collector) → length c.bytes ≡ most_held → take (held_length c) c.bytes ≡ held c
unfolding held_length
held-is c room = by (leb c.length most_held) refl
  where
    by : (t : Bool) → leb c.length most_held ≡ t → take (cond t c.length most_held) c.bytes ≡ held c
    by true e = refl
    by false e =
        let l = leb-false c.length most_held e in
        take_all most_held c.bytes (omega arith) ∙ sym (take_all c.length c.bytes (omega arith))

-- ---- one byte more
-- what is held is p
pub record Holds (c : Collector) (p : List ℕ) : Type 0 where
  pub count : kept c ≡ length p
  pub bytes : take (kept c) c.bytes ≡ p
  pub room : length c.bytes ≡ most_held

pub fresh_holds : Holds fresh_collector []
fresh_holds = record { count = refl; bytes = refl; room = refl }

abbrev with_byte : List ℕ → ℕ → List ℕ
with_byte p b = p ++ (b ∷ [])

-- what holds bytes has not ended
going : (c : Collector) → 0 < kept c → c.ended ≡ false
going c h = by c.ended refl
  where
    by : (t : Bool) → c.ended ≡ t → t ≡ false
    by true e =
        let z : kept c ≡ 0 = rw e in
        absurd (omega arith)
    by false e = refl

quiet : (c : Collector) (l : List (List ℕ)) → c.ended ≡ false → heard_at c l ≡ l
quiet c l e = ap (λ (t : Bool). cond t (held c ∷ l) l) e

module _ (c : Collector) (p : List ℕ) (b : ℕ) (h : Holds c p) (k : length p < most_held) where
  added-held : held (added c (kept c) b) ≡ with_byte p b
  added-held =
      ap (λ (n : ℕ). take n (set c.bytes (kept c) b)) (add-one (kept c)) ∙ take-suc-set c.bytes (kept c) b (omega (arith, h.count, h.room))
      ∙ ap (λ (l : List ℕ). l ++ (b ∷ [])) h.bytes

  added-holds : Holds (added c (kept c) b) (with_byte p b)
  added-holds =
      record { count = omega (arith, h.count, length-append p (b ∷ [])); bytes = added-held; room = length-set c.bytes (kept c) b ∙ h.room }

  push-judged : (node : ℕ) → pushed node c b ≡ judged node (added c (kept c) b)
  unfolding pushed
  push-judged node = rw (lt-ltb (kept c) most_held (omega (arith, h.count)))

  push-added : (node : ℕ) → stops node (with_byte p b) ≡ false → pushed node c b ≡ added c (kept c) b
  unfolding judged
  push-added node s = push-judged node ∙ rw (added-held, s)

push-full : (node : ℕ) (c : Collector) (b : ℕ) → most_held ≤ kept c → pushed node c b ≡ c
unfolding pushed
push-full node c b h = rw (le-ltb (kept c) most_held h)

-- ---- bytes that stop nowhere are held, 257 at most
pub record Collected (node : ℕ) (c : Collector) (l f : List ℕ) : Type 0 where
  pub holding : Holds (fed node c l) (take most_held f)
  pub hearing : heard node c l ≡ []

-- no part of f longer than n stops
abbrev pub Runs : ℕ → ℕ → List ℕ → Type 0
Runs node n f = (k : ℕ) → n < k → k ≤ most_bytes → k ≤ length f → stops node (take k f) ≡ false

-- and so none at all: a longer one goes on
runs_on : (node n : ℕ) (f : List ℕ) → Runs node n f → (k : ℕ) → n < k → k ≤ length f → stops node (take k f) ≡ false
runs_on node n f r k h j = go (dec_le k most_bytes)
  where
    go : Dec (k ≤ most_bytes) → stops node (take k f) ≡ false
    go (yes s) = r k h s j
    go (no s) = long-goes-on node (take k f) (omega (arith, s, length-take-le k f j))

-- from p held to p and l held
abbrev Collects : ℕ → List ℕ → Type 0
Collects node l = (p : List ℕ) (c : Collector) → Holds c p → length p ≤ most_held → Runs node (length p) (p ++ l) → Collected node c l (p ++ l)

module _ (node b : ℕ) (l p : List ℕ) (c : Collector) (h : Holds c p) (ih : Collects node l) where
  -- a byte behind 257 is dropped
  dropped : length p ≡ most_held → Collected node c (b ∷ l) (p ++ (b ∷ l))
  unfolding fed heard
  dropped m =
      let d : pushed node c b ≡ c = push-full node c b (omega (arith, h.count)) in
      let q = ih p c h (omega arith) (λ k x y z. absurd (omega arith)) in
      let t : take most_held (p ++ l) ≡ take most_held (p ++ (b ∷ l)) = take_at p l most_held m ∙ sym (take_at p (b ∷ l) most_held m) in
      record { holding = rw (d, ← t) q.holding; hearing = rw d (quiet c (heard node c l) (going c (omega (arith, h.count))) ∙ q.hearing) }

  -- another one is held, where nothing stops
  taken : length p < most_held → Runs node (length p) (p ++ (b ∷ l)) → Collected node c (b ∷ l) (p ++ (b ∷ l))
  unfolding fed heard
  taken k r =
      let e : with_byte p b ++ l ≡ p ++ (b ∷ l) = append_snoc p b l in
      let n : length (with_byte p b) ≡ length p + 1 = length-append p (b ∷ []) in
      let t : take (length p + 1) (p ++ (b ∷ l)) ≡ with_byte p b = ap (take (length p + 1)) (sym e) ∙ take_at (with_byte p b) l (length p + 1) n in
      let on : stops node (with_byte p b) ≡ false = ap (stops node) (sym t) ∙ runs_on node (length p) (p ++ (b ∷ l)) r (length p + 1) (omega arith) (omega (arith, length-append p (b ∷ l))) in
      let d : pushed node c b ≡ added c (kept c) b = push-added c p b h k node on in
      let q = ih (with_byte p b) (added c (kept c) b) (added-holds c p b h k) (omega arith) (λ i x y z. ap (λ (f : List ℕ). stops node (take i f)) e ∙ r i (omega arith) y (rw e at z)) in
      record { holding = rw (d, ← e) q.holding; hearing = rw d q.hearing }

module _ (node : ℕ) where
  collected : (l : List ℕ) → Collects node l
  unfolding fed heard
  collected [] p c h s r =
      let e : take most_held (p ++ []) ≡ p = ap (take most_held) (append-nil p) ∙ take_all most_held p s in
      record { holding = rw e h; hearing = refl }
  collected (b ∷ l) p c h s r = by (dec_le most_held (length p)) (collected l)
    where
      by : Dec (most_held ≤ length p) → Collects node l → Collected node c (b ∷ l) (p ++ (b ∷ l))
      by (yes full) ih = dropped node b l p c h ih (omega arith)
      by (no small) ih = taken node b l p c h ih (omega (arith, small)) r

  -- SILENCE ENDS WHAT STOPS NOWHERE: nothing is heard before it, and then the bytes are a frame, 257 of them at most
  pub silence-ends : (c : Collector) (l : List ℕ) → Holds c [] → 0 < length l → Runs node 0 l
      → (heard node c l ≡ []) × ((quieted (fed node c l)).ended ≡ true) × (held (quieted (fed node c l)) ≡ take most_held l)
  unfolding quieted
  silence-ends c l h some r =
      let q = collected l [] c h (omega arith) r in
      let d = fed node c l in
      let n : 0 < kept d = omega (arith, q.holding.count, some-held l some) in
      let z : kept d ≡ 0 → ⊥ = λ e. omega arith in
      let g = going d n in
      let i : kept d ≡ d.length = rw g in
      (q.hearing, rw (ne_eqb (kept d) 0 z), rw (ne_eqb (kept d) 0 z) (ap (λ (m : ℕ). take m d.bytes) (sym i) ∙ q.holding.bytes))
    where
      some-held : (l : List ℕ) → 0 < length l → 0 < length (take most_held l)
      some-held [] e = absurd (omega arith)
      some-held (x ∷ l) e = omega arith

  -- MORE THAN 256 BYTES are a broken frame at silence
  pub long-ends : (c : Collector) (l : List ℕ) → Holds c [] → most_bytes < length l → Runs node 0 l → is_broken (held (quieted (fed node c l))) ≡ true
  long-ends c l h long r =
      ap is_broken (silence-ends c l h (omega arith) r).2 ∙ long-broken (take most_held l) (omega (arith, length-take-le most_held l (omega arith)))

-- ---- the last byte of bytes of which no part stops before it
pub record Reached (node : ℕ) (c : Collector) (f : List ℕ) : Type 0 where
  pub last : Collector
  pub holding : held last ≡ f
  pub room : length last.bytes ≡ most_held
  pub feeding : fed node c f ≡ judged node last
  pub hearing : heard node c f ≡ heard_at (judged node last) []

module _ (node : ℕ) (c : Collector) (f : List ℕ) (h : Holds c []) (some : 0 < length f) (short : length f ≤ most_held) (first : (k : ℕ) → 0 < k → k < length f → stops node (take k f) ≡ false) where
  reached : Reached node c f
  unfolding fed heard
  reached =
      let n = length f - 1 in
      let a = take n f in
      let b = get_or f n 0 in
      let s : suc n ≡ length f = omega arith in
      let e : f ≡ a ++ (b ∷ []) = sym (take-length f) ∙ ap (λ (i : ℕ). take i f) (sym s) ∙ take-suc f n 0 (omega arith) in
      let m : length a ≡ n = length-take-le n f (omega arith) in
      let q = collected node a [] c h (omega arith) (λ k x y z. ap (stops node) (take-take k n f (omega arith)) ∙ first k x (omega arith)) in
      let d = fed node c a in
      let w : take most_held a ≡ a = take_all most_held a (omega arith) in
      let v : Holds d a = rw w at q.holding in
      let k : length a < most_held = omega arith in
      let p = push-judged d a b v k node in
      record {
        last = added d (kept d) b;
        holding = added-held d a b v k ∙ sym e;
        room = (added-holds d a b v k).room;
        feeding = ap (fed node c) e ∙ fed-pieces node c a (b ∷ []) ∙ p;
        hearing = ap (heard node c) e ∙ heard-pieces node c a (b ∷ []) ∙ rw q.hearing (ap (λ (x : Collector). heard_at x []) p);
      }

  -- A FRAME OF ANOTHER NODE IS PASSED OVER: nothing is heard, and nothing is held behind it
  pub passed_over : is_foreign node f ≡ true → stops node f ≡ true → (heard node c f ≡ []) × Holds (fed node c f) []
  unfolding judged
  passed_over o s =
      let r = reached in
      let d : judged node r.last ≡ emptied r.last = rw (r.holding, s, o) in
      (r.hearing ∙ ap (λ (x : Collector). heard_at x []) d, rw (r.feeding ∙ d) (record { count = refl; bytes = refl; room = r.room }))

  -- A FRAME TO THIS NODE OR TO ALL IS HEARD ONCE, and nothing is held behind it
  pub stop-heard : is_foreign node f ≡ false → stops node f ≡ true → (heard node c f ≡ f ∷ []) × Holds (fed node c f) []
  unfolding judged
  stop-heard o s =
      let r = reached in
      let d : judged node r.last ≡ closed r.last = rw (r.holding, s, o) in
      (r.hearing ∙ ap (λ (x : Collector). heard_at x []) d ∙ ap (λ (g : List ℕ). g ∷ []) r.holding, rw (r.feeding ∙ d) (record { count = refl; bytes = refl; room = r.room }))
