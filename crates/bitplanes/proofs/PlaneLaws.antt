-- One group, of any size n: bit i of plane j is bit j of word i, and n words of n bits with those bits are the planes.
use Rattle.std.specs.Prelude.{◌≡◌, refl, List, [], ◌∷◌, ℕ, zero, suc, ◌+◌, ◌^◌, ◌<◌, length, get_or}
use Rattle.std.proofs.Common.{sym, ap, ◌∙◌, subst, zero-add, pow-suc, not-suc-le-zero, le_of_suc-le-suc, arith, lit<, ext_get_or}
use Rattle.std.proofs.Math.Arith.{digits_lt, digits_div, digits_mod}
use Rattle.bits.specs.Bits.{bit_at}
use Rattle.bitplanes.specs.Turned.{plane, planes}
use Rattle.bits.proofs.BitLaws.{bit-lt, bit-first, bit-next, bit-none, bits-same}

-- past the end of the list both are 0
pub bit-plane : (ts : List ℕ) (i j : ℕ) → bit_at i (plane j ts) ≡ bit_at j (get_or ts i 0)
unfolding plane
bit-plane [] i j = bit-none i ∙ sym (bit-none j)
bit-plane (t ∷ ts) zero j = bit-first (plane j (t ∷ ts)) ∙ digits_mod (plane j ts) (bit-lt j t)
bit-plane (t ∷ ts) (suc i) j = bit-next i (plane j (t ∷ ts)) ∙ ap (bit_at i) (digits_div (plane j ts) (bit-lt j t)) ∙ bit-plane ts i j

plane-lt : (ts : List ℕ) (j : ℕ) → plane j ts < 2 ^ length ts
unfolding plane
plane-lt [] j = lit< tt
plane-lt (t ∷ ts) j = subst (λ (x : ℕ). plane j (t ∷ ts) < x) (sym (pow-suc 2 (length ts))) (digits_lt (plane-lt ts j) (bit-lt j t))

pub planes-length : (n j : ℕ) (ts : List ℕ) → length (planes n j ts) ≡ n
unfolding planes
planes-length zero j ts = refl
planes-length (suc n) j ts = ap suc (planes-length n (suc j) ts)

planes-from : (n j i : ℕ) (ts : List ℕ) → i < n → get_or (planes n j ts) i 0 ≡ plane (j + i) ts
unfolding planes
planes-from zero j i ts h = absurd (not-suc-le-zero h)
planes-from (suc n) j zero ts h = ap (λ (x : ℕ). plane x ts) (omega arith)
planes-from (suc n) j (suc i) ts h = planes-from n (suc j) i ts (le_of_suc-le-suc h) ∙ ap (λ (x : ℕ). plane x ts) (omega arith)

planes-at : (n i : ℕ) (ts : List ℕ) → i < n → get_or (planes n 0 ts) i 0 ≡ plane i ts
planes-at n i ts h = planes-from n 0 i ts h ∙ ap (λ (x : ℕ). plane x ts) (zero-add i)

-- bit i of word j of the turned group is bit j of word i
pub group-bit : (n i j : ℕ) (ts : List ℕ) → j < n → bit_at i (get_or (planes n 0 ts) j 0) ≡ bit_at j (get_or ts i 0)
group-bit n i j ts h = ap (bit_at i) (planes-at n j ts h) ∙ bit-plane ts i j

pub group-lt : (n i : ℕ) (ts : List ℕ) → length ts ≡ n → i < n → get_or (planes n 0 ts) i 0 < 2 ^ n
group-lt n i ts l h = subst (λ (x : ℕ). x < 2 ^ n) (sym (planes-at n i ts h)) (subst (λ (x : ℕ). plane i ts < 2 ^ x) l (plane-lt ts i))

-- a list of n words of n bits with those bits is the turned group
pub group-is : (n : ℕ) (ts us : List ℕ) → length ts ≡ n → length us ≡ n → ((i : ℕ) → i < n → get_or us i 0 < 2 ^ n)
    → ((i j : ℕ) → i < n → j < n → bit_at j (get_or us i 0) ≡ bit_at i (get_or ts j 0)) → us ≡ planes n 0 ts
group-is n ts us lt lu small same =
    ext_get_or 0 us (planes n 0 ts) (lu ∙ sym (planes-length n 0 ts))
    (λ i h.
    let l : i < n = subst (λ (x : ℕ). i < x) lu h in
    bits-same n (get_or us i 0) (get_or (planes n 0 ts) i 0) (small i l) (group-lt n i ts lt l)
    (λ j k. same i j l k ∙ sym (group-bit n j i ts l)))

-- turning a group again gives it back
pub group-back : (n : ℕ) (ts : List ℕ) → length ts ≡ n → ((i : ℕ) → i < n → get_or ts i 0 < 2 ^ n) → planes n 0 (planes n 0 ts) ≡ ts
group-back n ts l small = sym (group-is n (planes n 0 ts) ts (planes-length n 0 ts) l small (λ i j h k. sym (group-bit n i j ts k)))
