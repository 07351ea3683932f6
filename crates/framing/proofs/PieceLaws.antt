-- How the bytes are cut into pieces does not matter, neither for the collector nor for the frames that are heard; and so it is for calls of `feed`.
use Rattle.std.specs.Prelude.{◌≡◌, refl, Bool, true, false, cond, List, [], ◌∷◌, ◌++◌, ℕ, suc, ◌+◌, ◌-◌, ◌≤◌, ◌<◌, length, get_or, drop}
use Rattle.std.proofs.Common.{sym, ap, ◌∙◌, add-one, arith, drop-cons}
use Rattle.std.proofs.Math.Seq.{drop-nil}
use Rattle.framing.specs.declared.Collector.{Collector}
use Rattle.framing.specs.Collector.{Fed, held, pushed, fed, heard_at, heard, fed_to}

-- FEEDING a AND THEN b IS FEEDING a ++ b
pub fed-pieces : (node : ℕ) (c : Collector) (a b : List ℕ) → fed node c (a ++ b) ≡ fed node (fed node c a) b
unfolding fed
fed-pieces node c [] b = refl
fed-pieces node c (x ∷ a) b = fed-pieces node (pushed node c x) a b

heard-append : (c : Collector) (k l : List (List ℕ)) → heard_at c (k ++ l) ≡ heard_at c k ++ l
heard-append c k l = by c.ended
  where
    by : (t : Bool) → cond t (held c ∷ (k ++ l)) (k ++ l) ≡ cond t (held c ∷ k) k ++ l
    by true = refl
    by false = refl

pub heard-pieces : (node : ℕ) (c : Collector) (a b : List ℕ) → heard node c (a ++ b) ≡ heard node c a ++ heard node (fed node c a) b
unfolding fed heard
heard-pieces node c [] b = refl
heard-pieces node c (x ∷ a) b =
    let p = pushed node c x in
    ap (heard_at p) (heard-pieces node p a b) ∙ heard-append p (heard node p a) (heard node (fed node p a) b)

-- ---- the code's loop
-- a byte, and then the rest unless a frame has ended
abbrev on : ℕ → Collector → List ℕ → ℕ → Fed
on node d l i = cond d.ended (record { collector = d; next = i }) (fed_to node d l i)

pub fed-next : (node : ℕ) (c : Collector) (l : List ℕ) (i : ℕ) → i < length l
    → fed_to node c (drop i l) i ≡ on node (pushed node c (get_or l i 0)) (drop (i + 1) l) (i + 1)
unfolding fed_to
fed-next node c l i h = rw (drop-cons l i 0, add-one)

-- the place never goes back
pub next-on : (node : ℕ) (c : Collector) (l : List ℕ) (i : ℕ) → i ≤ (fed_to node c l i).next
unfolding fed_to
next-on node c [] i = omega arith
next-on node c (b ∷ l) i = by (pushed node c b).ended (next-on node (pushed node c b) l (i + 1))
  where
    by : (t : Bool) → i + 1 ≤ (fed_to node (pushed node c b) l (i + 1)).next
        → i ≤ (cond t (record { collector = pushed node c b; next = i + 1 }) (fed_to node (pushed node c b) l (i + 1))).next
    by true h = omega arith
    by false h = omega arith

-- WHAT A CALL OF `feed` LEAVES: the frame that it stopped at, if any, and then what the rest of the bytes gives
abbrev Left : ℕ → Collector → List ℕ → ℕ → Fed → Type 0
Left node c l i r = heard node c l ≡ heard_at r.collector (heard node r.collector (drop (r.next - i) l))

pub heard-fed : (node : ℕ) (c : Collector) (l : List ℕ) (i : ℕ) → c.ended ≡ false → Left node c l i (fed_to node c l i)
unfolding fed_to heard
heard-fed node c [] i e = rw (drop-nil, e)
heard-fed node c (b ∷ l) i e = by d.ended refl (heard-fed node d l (i + 1))
  where
    d : Collector
    d = pushed node c b

    by : (t : Bool) → d.ended ≡ t → (d.ended ≡ false → Left node d l (i + 1) (fed_to node d l (i + 1)))
        → Left node c (b ∷ l) i (cond t (record { collector = d; next = i + 1 }) (fed_to node d l (i + 1)))
    by true q ih =
        let one : i + 1 - i ≡ 1 = omega arith in
        rw one
    by false q ih =
        let r = fed_to node d l (i + 1) in
        let s : r.next - i ≡ suc (r.next - (i + 1)) = omega (arith, next-on node d l (i + 1)) in
        ap (λ (t : Bool). cond t (held d ∷ heard node d l) (heard node d l)) q ∙ ih q
        ∙ ap (λ (n : ℕ). heard_at r.collector (heard node r.collector (drop n (b ∷ l)))) (sym s)
