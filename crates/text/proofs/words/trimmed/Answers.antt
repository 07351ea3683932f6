-- `text::words::trimmed` meets its contract: a carriage return is the last byte or it is not.
use Prim.Native.Nat.{ℕ, suc, ◌+◌, ◌-◌}
use mathlib.Core.Path.{◌≡◌, refl, sym, ap, ◌∙◌}
use mathlib.Core.Bool.{Bool, true, false, ◌&&◌}
use mathlib.Core.List.{List, [], ◌∷◌}
use native.Mathlib.Omega.{arith}
use lib.Dec.{eqb}
use lib.ListN.{length, get_or, take, drop}
use lib.Seq.{drop-cons}
use lib.Pointwise.{pointwise}
use Rattle.std.specs.Prelude.{Option, Some, None, MatchOption}
use Rattle.std.specs.Borrow.{Bor}
use Rattle.std.specs.Option.{unwrap_or}
use Rattle.std.proofs.lemmas.List.{drop_all}
use Rattle.text.specs.Marks.{carriage_return}
use Rattle.text.specs.Words.{trimmed_of}
use Rattle.text.proofs.words.trimmed.Goals as goal

and-true : (t : Bool) → (t && true) ≡ t
and-true true = refl
and-true false = refl

-- the text from its last byte on is a carriage return where that byte is one
last-byte : (s : List ℕ) → pointwise eqb (drop (length s - 1) s) (carriage_return ∷ []) ≡ eqb (get_or s (length s - 1) 0) carriage_return
last-byte [] = refl
last-byte (b ∷ s) =
    let n : length (b ∷ s) - 1 ≡ length s = omega arith in
    let d : drop (length s) (b ∷ s) ≡ get_or (b ∷ s) (length s) 0 ∷ [] = drop-cons (b ∷ s) (length s) 0 (omega arith) ∙ ap (λ (t : List ℕ). get_or (b ∷ s) (length s) 0 ∷ t) (drop_all (suc (length s)) (b ∷ s) (omega arith)) in
    rw (n, d) (and-true (eqb (get_or (b ∷ s) (length s) 0) carriage_return))

trimmed-by : (d : Bor (List ℕ)) (r : Option (Bor (List ℕ)))
    → MatchOption r (pointwise eqb (drop (length d.now - 1) d.now) (carriage_return ∷ []) ≡ false) (λ x. (pointwise eqb (drop (length d.now - 1) d.now) (carriage_return ∷ []) ≡ true) × (x.now ≡ take (length d.now - 1) d.now) × (length x.now + 1 ≡ length d.now))
    → (unwrap_or r d).now ≡ trimmed_of d.now
unfolding trimmed_of
trimmed-by d None h = let e = sym (last-byte d.now) ∙ h in rw e
trimmed-by d (Some x) h = let e = sym (last-byte d.now) ∙ h.0 in rw (e, h.1)

pub returns : goal.returns
returns c = ap (λ (x : Bor (List ℕ)). x.now) c.unwrap_or.ensures ∙ trimmed-by c.args.s c.strip_suffix.result c.strip_suffix.ensures.cases
