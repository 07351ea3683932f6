-- A list whose groups of s are made anew by f, each group for itself and as long as before: laws over s and f.
use Rattle.std.specs.Prelude.{◌≡◌}
use Rattle.std.proofs.Math.Path.{refl, sym, ap, ap₂}
use Rattle.std.proofs.Common.{◌∙◌, subst, add_comm, suc-add, not-suc-le-zero, le_of_suc-le-suc, arith, length-take-le, take_at, drop_at}
use mathlib.Core.List.{List, [], ◌∷◌, ◌++◌, append_assoc}
use Prim.Native.Nat.{ℕ, zero, suc, ◌+◌, ◌-◌, ◌*◌, ◌≤◌, ◌<◌}
use Rattle.std.proofs.Math.Nat.{suc-mul, zero-mul, zero-add}
use Rattle.std.proofs.Math.ListN.{length, get_or, take, drop, length-append, length-drop, get_or-append}
use Rattle.std.proofs.Math.Seq.{drop-drop, get_or-append-add}
use Rattle.std.proofs.lemmas.List.{take-append-le, drop-append-le}
use Rattle.bitplanes.specs.Turned.{in_groups}

-- f keeps the length of a group of s
abbrev pub Keeps : ℕ → (List ℕ → List ℕ) → Type 0
Keeps s f = (g : List ℕ) → length g ≡ s → length (f g) ≡ s

-- the groups of a list: suc n of them fill s and n * s
full : (n s l : ℕ) → suc n * s ≤ l → (s ≤ l) × (n * s ≤ l - s)
full n s l h = let e : suc n * s ≡ n * s + s = suc-mul n s in (omega arith, omega arith)

-- place k of group g + 1 is behind the first s
further : (s g k : ℕ) → suc g * s + k ≡ s + (g * s + k)
further s g k = let e : suc g * s ≡ g * s + s = suc-mul g s in omega arith

-- behind the first s and then behind n groups
behind : (n s : ℕ) → suc n * s ≡ s + n * s
behind n s = suc-mul n s ∙ add_comm (n * s) s

rest-full : (n s : ℕ) (ts : List ℕ) → suc n * s ≤ length ts → n * s ≤ length (drop s ts)
rest-full n s ts h = subst (λ (x : ℕ). n * s ≤ x) (sym (length-drop s ts)) (full n s (length ts) h).1

-- ---- what lies behind the groups stays, whatever f is
module _ (s : ℕ) (f : List ℕ → List ℕ) where
  pub groups-append : (n : ℕ) (ts us : List ℕ) → n * s ≤ length ts → in_groups s f n (ts ++ us) ≡ in_groups s f n ts ++ us
  unfolding in_groups
  groups-append zero ts us h = refl
  groups-append (suc n) ts us h =
      ap₂ (λ (x y : List ℕ). f x ++ in_groups s f n y)
      (take-append-le s ts us (full n s (length ts) h).0) (drop-append-le s ts us (full n s (length ts) h).0)
      ∙ ap (λ (x : List ℕ). f (take s ts) ++ x) (groups-append n (drop s ts) us (rest-full n s ts h))
      ∙ sym (append_assoc (f (take s ts)) (in_groups s f n (drop s ts)) us)

  -- a list that ends with a group, and what lies behind it
  pub groups-split : (m n : ℕ) (ts us : List ℕ) → length ts ≡ m * s → in_groups s f (m + n) (ts ++ us) ≡ in_groups s f m ts ++ in_groups s f n us
  unfolding in_groups
  groups-split zero n ts us l =
      ap₂ (λ (k : ℕ) (x : List ℕ). in_groups s f k (x ++ us)) (zero-add n) (none ts (l ∙ zero-mul s)) ∙ ap (λ (x : List ℕ). x ++ in_groups s f n us) (sym (none ts (l ∙ zero-mul s)))
    where
      none : (xs : List ℕ) → length xs ≡ 0 → xs ≡ []
      none [] e = refl
      none (x ∷ xs) e = absurd (omega arith)
  groups-split (suc m) n ts us l =
      let h : s ≤ length ts = (full m s (length ts) (omega arith)).0 in
      let d : length (drop s ts) ≡ m * s = length-drop s ts ∙ ap (λ (x : ℕ). x - s) (l ∙ suc-mul m s) ∙ (omega arith) in
      ap (λ (k : ℕ). in_groups s f k (ts ++ us)) (suc-add m n)
      ∙ ap₂ (λ (x y : List ℕ). f x ++ in_groups s f (m + n) y) (take-append-le s ts us h) (drop-append-le s ts us h)
      ∙ ap (λ (x : List ℕ). f (take s ts) ++ x) (groups-split m n (drop s ts) us d)
      ∙ sym (append_assoc (f (take s ts)) (in_groups s f m (drop s ts)) (in_groups s f n us))

-- ---- each group for itself
module _ (s : ℕ) (f : List ℕ → List ℕ) (keeps : Keeps s f) where
  first-long : (ts : List ℕ) → s ≤ length ts → length (f (take s ts)) ≡ s
  first-long ts h = keeps (take s ts) (length-take-le s ts h)

  pub groups-length : (n : ℕ) (ts : List ℕ) → n * s ≤ length ts → length (in_groups s f n ts) ≡ length ts
  unfolding in_groups
  groups-length zero ts h = refl
  groups-length (suc n) ts h =
      let d : length (drop s ts) ≡ length ts - s = length-drop s ts in
      let r : length (in_groups s f n (drop s ts)) ≡ length (drop s ts) = groups-length n (drop s ts) (rest-full n s ts h) in
      let p : length (f (take s ts)) ≡ s = first-long ts (full n s (length ts) h).0 in
      let q : s ≤ length ts = (full n s (length ts) h).0 in
      length-append (f (take s ts)) (in_groups s f n (drop s ts)) ∙ (omega arith)

  -- word k of group g
  pub groups-at : (n : ℕ) (ts : List ℕ) (g k : ℕ) → n * s ≤ length ts → g < n → k < s
      → get_or (in_groups s f n ts) (g * s + k) 0 ≡ get_or (f (take s (drop (g * s) ts))) k 0
  unfolding in_groups
  groups-at zero ts g k h hg hk = absurd (not-suc-le-zero hg)
  groups-at (suc n) ts zero k h hg hk =
      let p : length (f (take s ts)) ≡ s = first-long ts (full n s (length ts) h).0 in
      ap (λ (x : ℕ). get_or (f (take s ts) ++ in_groups s f n (drop s ts)) x 0) (ap (λ (x : ℕ). x + k) (zero-mul s) ∙ zero-add k)
      ∙ get_or-append (f (take s ts)) (in_groups s f n (drop s ts)) 0 k (subst (λ (x : ℕ). k < x) (sym p) hk)
      ∙ ap (λ (x : ℕ). get_or (f (take s (drop x ts))) k 0) (sym (zero-mul s))
  groups-at (suc n) ts (suc g) k h hg hk =
      let p : length (f (take s ts)) ≡ s = first-long ts (full n s (length ts) h).0 in
      ap (λ (x : ℕ). get_or (f (take s ts) ++ in_groups s f n (drop s ts)) x 0) (further s g k ∙ ap (λ (x : ℕ). x + (g * s + k)) (sym p))
      ∙ get_or-append-add (f (take s ts)) (in_groups s f n (drop s ts)) (g * s + k) 0
      ∙ groups-at n (drop s ts) g k (rest-full n s ts h) (le_of_suc-le-suc hg) hk
      ∙ ap (λ (l : List ℕ). get_or (f (take s l)) k 0) (drop-drop (g * s) s ts ∙ ap (λ (x : ℕ). drop x ts) (sym (behind g s)))

  pub groups-rest : (n : ℕ) (ts : List ℕ) → n * s ≤ length ts → drop (n * s) (in_groups s f n ts) ≡ drop (n * s) ts
  unfolding in_groups
  groups-rest zero ts h = refl
  groups-rest (suc n) ts h =
      let A : List ℕ = f (take s ts) in
      let B : List ℕ = in_groups s f n (drop s ts) in
      ap (λ (x : ℕ). drop x (A ++ B)) (behind n s) ∙ sym (drop-drop (n * s) s (A ++ B))
      ∙ ap (drop (n * s)) (drop_at A B s (first-long ts (full n s (length ts) h).0))
      ∙ groups-rest n (drop s ts) (rest-full n s ts h) ∙ drop-drop (n * s) s ts ∙ ap (λ (x : ℕ). drop x ts) (sym (behind n s))

  -- the next group made anew in its place, as a loop does it: g is the group from `at` on, e its length
  pub group-next : (o g : List ℕ) (at k e : ℕ) → at + s ≤ length o → e ≡ s → g ≡ f (take e (drop at o))
      → take at o ++ in_groups s f (suc k) (drop at o)
      ≡ take (at + s) (take at o ++ (g ++ drop e (drop at o))) ++ in_groups s f k (drop (at + s) (take at o ++ (g ++ drop e (drop at o))))
  unfolding in_groups
  group-next o g at k e h same made =
      let r : List ℕ = drop s (drop at o) in
      let m : g ≡ f (take s (drop at o)) = made ∙ ap (λ (x : ℕ). f (take x (drop at o))) same in
      let d : length (drop at o) ≡ length o - at = length-drop at o in
      let q : List ℕ = take at o ++ g in
      let l : length q ≡ at + s =
      length-append (take at o) g ∙ ap₂ (λ (x y : ℕ). x + y) (length-take-le at o (omega arith)) (ap length m ∙ first-long (drop at o) (omega arith)) in
      let j : q ++ r ≡ take at o ++ (g ++ drop e (drop at o)) =
      append_assoc (take at o) g r ∙ ap (λ (x : ℕ). take at o ++ (g ++ drop x (drop at o))) (sym same) in
      ap (λ (x : List ℕ). take at o ++ (x ++ in_groups s f k r)) (sym m) ∙ sym (append_assoc (take at o) g (in_groups s f k r))
      ∙ ap₂ (λ (x y : List ℕ). x ++ in_groups s f k y) (sym (take_at q r (at + s) l)) (sym (drop_at q r (at + s) l))
      ∙ ap (λ (x : List ℕ). take (at + s) x ++ in_groups s f k (drop (at + s) x)) j
