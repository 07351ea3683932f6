-- A text written in the part of a buffer that starts at a place, and the byte behind it, are the text and the byte put there.
use Prim.Native.Nat.{ℕ, suc, ◌+◌, ◌-◌, ◌≤◌, ◌<◌}
use mathlib.Core.Path.{◌≡◌}
use mathlib.Core.List.{List, [], ◌∷◌, ◌++◌, append_assoc, append-nil}
use native.Mathlib.Omega.{arith}
use lib.ListN.{length, get_or, take, drop, set, length-append, length-drop, drop_of_length-le}
use lib.Seq.{drop-drop, drop-cons, set_at, length-take-le}
use borrow.Rule.Slice.PartMut.{put_mid}
use Rattle.text.specs.Put.{put_at}
use Rattle.text.specs.WordLaws.{part-all}

-- nothing lies behind the part that is lent
part-last : (out : List ℕ) (at : ℕ) → drop (length out - at) (drop at out) ≡ []
part-last out at =
    let l : length (drop at out) ≤ length out - at = omega (arith, length-drop at out) in
    drop_of_length-le (drop at out) l

part-put : (out text ys : List ℕ) (at n : ℕ) → ys ≡ text ++ drop n (take (length out - at) (drop at out)) → put_mid at (length out - at) out ys ≡ take at out ++ text ++ drop (at + n) out
part-put out text ys at n e =
    let a : ys ≡ text ++ drop (at + n) out = rw (part-all out at, drop-drop n at out) at e in
    rw (part-last out at, append-nil, a, ← append_assoc (take at out) text (drop (at + n) out))

pub number_put : (out text ys : List ℕ) (at n b : ℕ) → n ≡ length text → at + n < length out → ys ≡ text ++ drop n (take (length out - at) (drop at out))
    → set (put_mid at (length out - at) out ys) (at + n) b ≡ put_at out at (text ++ (b ∷ []))
number_put out text ys at n b h l e =
    let front : length (take at out ++ text) ≡ at + n = rw (length-append, length-take-le at out (omega arith)) (omega arith) in
    let behind : suc (at + n) ≡ at + length (text ++ (b ∷ [])) = rw length-append (omega arith) in
    rw (part-put out text ys at n e, drop-cons out (at + n) 0 l, set_at (take at out ++ text) (get_or out (at + n) 0) (drop (suc (at + n)) out) b (at + n) front, behind)
    (simp append_assoc)
