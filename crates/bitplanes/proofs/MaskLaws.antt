-- The masks of the five rounds, bit by bit, and the sizes of the five widths: both computed, width by width.
use Rattle.std.specs.Prelude.{◌≡◌, refl, Bool, true, false, ◌&&◌, ◌⊎◌, ℕ, zero, suc, ◌-◌, ◌*◌, ◌/◌, ◌^◌, ◌≤◌, ◌<◌, eqb}
use Rattle.std.proofs.Common.{ap, ◌∙◌, inl, inr, ⊎_elim, not-suc-le-zero, arith, eqb-true, lit<, lit≤}
use Rattle.std.proofs.lemmas.Bool.{eqb-false}
use Rattle.bits.specs.Bits.{bit_at}
use Rattle.bitplanes.specs.IndexLaws.{at}
use Rattle.bitplanes.specs.RoundSteps.{Width, by1, by2, by4, by8, by16, mask_of}

-- ---- the widths
pub record Sizes (w : ℕ) : Type 0 where
  pub above : 0 < w
  pub small : w ≤ 16
  -- w is a power of two
  pub log : ℕ
  pub power : w ≡ 2 ^ log
  -- a group is a number of twice w words
  pub half : 16 / w * w ≡ 16
  pub whole : 16 / w * 2 * w ≡ 32
  pub room : mask_of w < 2 ^ (32 - w)
  pub fits : mask_of w < 2 ^ 32

pub sizes : (w : ℕ) → Width w → Sizes w
unfolding mask_of
sizes _ by1 = record { above = lit< tt; small = lit≤ tt; log = 0; power = refl; half = refl; whole = refl; room = lit< tt; fits = lit< tt }
sizes _ by2 = record { above = lit< tt; small = lit≤ tt; log = 1; power = refl; half = refl; whole = refl; room = lit< tt; fits = lit< tt }
sizes _ by4 = record { above = lit< tt; small = lit≤ tt; log = 2; power = refl; half = refl; whole = refl; room = lit< tt; fits = lit< tt }
sizes _ by8 = record { above = lit< tt; small = lit≤ tt; log = 3; power = refl; half = refl; whole = refl; room = lit< tt; fits = lit< tt }
sizes _ by16 = record { above = lit< tt; small = lit≤ tt; log = 4; power = refl; half = refl; whole = refl; room = lit< tt; fits = lit< tt }

-- ---- the masks
-- whether a test holds of all numbers below n
all : (ℕ → Bool) → ℕ → Bool
all p zero = true
all p (suc n) = p n && all p n

both : (x y : Bool) → (x && y) ≡ true → (x ≡ true) × (y ≡ true)
both true true h = (refl, refl)
both true false h = (refl, h)
both false true h = (h, refl)
both false false h = (h, h)

all-at : (p : ℕ → Bool) (n k : ℕ) → all p n ≡ true → k < n → p k ≡ true
unfolding all
all-at p zero k a h = absurd (not-suc-le-zero h)
all-at p (suc n) k a h =
    ⊎_elim (λ (e : k ≡ n). ap p e ∙ (both (p n) (all p n) a).0) (λ (l : k < n). all-at p n k (both (p n) (all p n) a).1 l) (apart (eqb k n) refl)
  where
    apart : (b : Bool) → eqb k n ≡ b → (k ≡ n) ⊎ (k < n)
    apart true e = inl (eqb-true k n e)
    apart false e = let d : k ≡ n → ⊥ = eqb-false k n e in inr (omega arith)

-- bit k of the mask is set where the block of k is even
mask_right : ℕ → ℕ → Bool
mask_right w k = eqb (bit_at k (mask_of w)) (1 - at w k)

masks : (w : ℕ) → Width w → all (mask_right w) 32 ≡ true
unfolding all mask_right mask_of
masks _ by1 = refl
masks _ by2 = refl
masks _ by4 = refl
masks _ by8 = refl
masks _ by16 = refl

pub mask-bit : (w k : ℕ) → Width w → k < 32 → (b : ℕ) → at w k ≡ b → bit_at k (mask_of w) ≡ 1 - b
unfolding mask_right
mask-bit w k v h b e = eqb-true (bit_at k (mask_of w)) (1 - at w k) (all-at (mask_right w) 32 k (masks w v) h) ∙ ap (λ (x : ℕ). 1 - x) e
